-- The draws and the line of a row, by the state before it.
use Rattle.std.proofs.Common.{◌≡◌, ℕ, suc, ◌+◌, ◌*◌, ◌∙◌, List, [], ◌++◌, ap, append_assoc, refl, sym, arith}
use Rattle.std.specs.Prelude.{codes}
use Rattle.qw_generate.specs.Generated.{draw_of, drawn, next, sale_line, sale_row, sale_rows, state_after}

-- a number that is greater by one
one_more : (seed draws number : ℕ) → number ≡ suc draws → state_after seed number ≡ next (state_after seed draws)
unfolding state_after
one_more seed draws number is = rw is refl

-- a row takes four draws
pub four_more : (seed row : ℕ) → state_after seed (4 * (row + 1)) ≡ next (next (next (next (state_after seed (4 * row)))))
four_more seed row =
    one_more seed (4 * row + 3) (4 * (row + 1)) (omega arith)
    ∙ ap next (one_more seed (4 * row + 2) (4 * row + 3) (omega arith)
    ∙ ap next (one_more seed (4 * row + 1) (4 * row + 2) (omega arith)
    ∙ ap next (one_more seed (4 * row) (4 * row + 1) (omega arith))))

pub none_drawn : (seed : ℕ) → state_after seed 0 ≡ seed
unfolding state_after
none_drawn seed = refl

-- the line of a row
pub line_is : (seed row state : ℕ) → state ≡ state_after seed (4 * row) → sale_row seed row ≡
    sale_line (row + 1) (draw_of (next state)) (draw_of (next (next state))) (draw_of (next (next (next state)))) (draw_of (next (next (next (next state)))))
unfolding drawn sale_row
line_is seed row state is =
    let first : state_after seed (4 * row + 1) ≡ next state = one_more seed (4 * row) (4 * row + 1) (omega arith) ∙ ap next (sym is) in
    let second : state_after seed (4 * row + 2) ≡ next (next state) = one_more seed (4 * row + 1) (4 * row + 2) (omega arith) ∙ ap next first in
    let third : state_after seed (4 * row + 3) ≡ next (next (next state)) = one_more seed (4 * row + 2) (4 * row + 3) (omega arith) ∙ ap next second in
    let fourth : state_after seed (4 * row + 4) ≡ next (next (next (next state))) = one_more seed (4 * row + 3) (4 * row + 4) (omega arith) ∙ ap next third in
    rw (first, second, third, fourth) refl

pub no_rows : (seed : ℕ) → sale_rows seed 0 ≡ []
unfolding sale_rows
no_rows seed = refl

-- one row more
pub row_more : (seed row : ℕ) → sale_rows seed (row + 1) ≡ sale_rows seed row ++ sale_row seed row
unfolding sale_rows
row_more seed row = let e : row + 1 ≡ suc row = omega arith in rw e refl

-- a text with one row more
pub text_more : (header before after line : List ℕ) (seed row : ℕ) → before ≡ header ++ sale_rows seed row → after ≡ before ++ line → sale_row seed row ≡ line →
    after ≡ header ++ sale_rows seed (row + 1)
text_more header before after line seed row was is row_is =
    is ∙ ap (λ text. text ++ line) was ∙ append_assoc header (sale_rows seed row) line
    ∙ ap (λ rows. header ++ rows) (ap (λ (text : List ℕ). sale_rows seed row ++ text) (sym row_is) ∙ sym (row_more seed row))

-- the parts of a line, written one behind another
pub line_whole : (old id shop price day kind with_shop with_price with_comma with_day whole : List ℕ) → with_shop ≡ old ++ (id ++ (codes "," ++ (shop ++ codes ","))) →
    with_price ≡ with_shop ++ price → with_comma ≡ with_price ++ codes "," → with_day ≡ with_comma ++ day → whole ≡ with_day ++ (codes "," ++ (kind ++ codes "\n")) →
    whole ≡ old ++ (id ++ codes "," ++ shop ++ codes "," ++ price ++ codes "," ++ day ++ codes "," ++ kind ++ codes "\n")
line_whole old id shop price day kind with_shop with_price with_comma with_day whole shop_is price_is comma_is day_is whole_is =
    rw (whole_is, day_is, comma_is, price_is, shop_is) (simp append_assoc)
