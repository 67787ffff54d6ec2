-- Where the one token at the front of a text ends.
use Rattle.std.proofs.Common.{get_or, ◌≡◌, ℕ, ◌-◌, ◌<◌, ◌≤◌, Bool, true, false, cond, eqb, ◌||◌, ◌&&◌, List, [], ◌∷◌, ◌++◌, length, take, drop, Option, Some, None, refl, sym, ap, subst, ◌∙◌, append_assoc, arith, inl, inr}
use Rattle.std.specs.Prelude.{IsTrue, count_by, codes}
use Rattle.std.specs.List.{AllByRecursion, list_any}
use Rattle.std.specs.Char.{is_ascii_alphabetic, is_ascii_digit}
use Rattle.std.proofs.lemmas.Bool.{cases_Bool, eqb-true, eq-eqb, or_cases, or_left, or_right, and_parts}
use Rattle.std.proofs.lemmas.Bool.Decides.{nat_tests}
use Rattle.std.proofs.lemmas.List.Elements.{recursion_from_All, All-from_recursion}
use Rattle.std.proofs.lemmas.List.{length-append, take_at}
use Rattle.std.proofs.lemmas.Slice.{between_to_end}
use Rattle.std.proofs.lemmas.List.Sums.{sum_by-cons}
use Rattle.qw_token.specs.declared.token.Kind.{Kind}
use Rattle.qw_token.specs.declared.token.Kind.TheVariants.{Word, DelimitedIdentifier, CharacterString, Number, Symbol}
use Rattle.qw_token.specs.Token.{Lexeme, is_word_octet, IsWord, doubled, quoted, is_number_octet, is_word_octet_or_point, IsNumber, is_single_symbol, is_double_symbol, IsSymbol, HasForm, begins_with, Begins}
use Rattle.qw_token.specs.Inner.Lexer.{after_run, kind_at, after_quote, after_symbol, or_closed}

-- ---- runs

-- a front that passes, and what it leaves
pub record IsRun (test : ℕ → Bool) (text rest : List ℕ) : Type 0 where
  pub front : List ℕ
  pub parts : text ≡ front ++ rest
  pub passes : AllByRecursion (λ b. test b ≡ true) front
  pub stops : begins_with test rest ≡ false

pub after_run_is : (test : ℕ → Bool) (text : List ℕ) → IsRun test text (after_run test text)
after_run_is test [] = record { front = []; parts = refl; passes = tt; stops = refl }
after_run_is test (b ∷ bs) =
    let more = after_run_is test bs in
    elim (cases_Bool (test b)) [
      | inl e ↦ rw e (record { front = b ∷ more.front; parts = ap (λ (x : List ℕ). b ∷ x) more.parts; passes = (e, more.passes); stops = more.stops })
      | inr e ↦ rw e (record { front = []; parts = refl; passes = tt; stops = e })
    ]

pub after_run_of : (test : ℕ → Bool) (front rest : List ℕ) → AllByRecursion (λ b. test b ≡ true) front → begins_with test rest ≡ false → after_run test (front ++ rest) ≡ rest
after_run_of test [] [] passes stops = refl
after_run_of test [] (b ∷ bs) passes stops = rw stops refl
after_run_of test (b ∷ bs) rest passes stops = rw (passes.0) (after_run_of test bs rest passes.1 stops)

-- ---- quotes

pub record Closes (quote : ℕ) (text rest : List ℕ) : Type 0 where
  pub value : List ℕ
  pub parts : text ≡ doubled quote value ++ (quote ∷ rest)

pub same_quote : (quote : ℕ) → eqb quote quote ≡ true
same_quote quote = eq-eqb quote quote refl

pub skip_octet : (quote b : ℕ) (bs : List ℕ) → eqb b quote ≡ false → after_quote quote (b ∷ bs) ≡ after_quote quote bs
skip_octet quote b [] e = rw e refl
skip_octet quote b (c ∷ bs) e = rw e refl

-- what two quotes are: one of the text that goes on, or the first of them closes it
pair_is : (quote : ℕ) (bs rest : List ℕ) (o : Option (List ℕ)) → ((r : List ℕ) → o ≡ Some r → Closes quote bs r) → or_closed o (Some (quote ∷ bs)) ≡ Some rest → Closes quote (quote ∷ quote ∷ bs) rest
pair_is quote bs rest None closes e =
    let same : quote ∷ bs ≡ rest = cc in
    subst (Closes quote (quote ∷ quote ∷ bs)) same (record { value = []; parts = refl })
pair_is quote bs rest (Some r) closes e =
    let same : r ≡ rest = cc in
    let more = closes r refl in
    subst (Closes quote (quote ∷ quote ∷ bs)) same (record { value = quote ∷ more.value; parts = rw (same_quote quote, ← more.parts) refl })

-- what is left stands behind a quote that closes
pub after_quote_is : (quote : ℕ) (text rest : List ℕ) → after_quote quote text ≡ Some rest → Closes quote text rest
after_quote_is quote [] rest e = absurd cc
after_quote_is quote (b ∷ []) rest e =
    elim (cases_Bool (eqb b quote)) [
      | inl h ↦
          let got : Some [] ≡ Some rest = rw h at e in
          let same : [] ≡ rest = cc in
          subst (Closes quote (b ∷ [])) same (record { value = []; parts = ap (λ x. x ∷ []) (eqb-true b quote h) })
      | inr h ↦ let got : None ≡ Some rest = rw h at e in absurd cc
    ]
after_quote_is quote (b ∷ c ∷ bs) rest e =
    elim (cases_Bool (eqb b quote)) [
      | inl h ↦ elim (cases_Bool (eqb c quote)) [
        | inl k ↦
            let got : or_closed (after_quote quote bs) (Some (c ∷ bs)) ≡ Some rest = rw (h, k) at e in
            let first = eqb-true b quote h in
            let second = eqb-true c quote k in
            rw (first, second) (pair_is quote bs rest (after_quote quote bs) (λ r is. after_quote_is quote bs r is) (rw second at got))
        | inr k ↦
            let got : Some (c ∷ bs) ≡ Some rest = rw (h, k) at e in
            let same : c ∷ bs ≡ rest = cc in
            subst (Closes quote (b ∷ c ∷ bs)) same (record { value = []; parts = ap (λ x. x ∷ c ∷ bs) (eqb-true b quote h) })
      ]
      | inr h ↦
          let more = after_quote_is quote (c ∷ bs) rest (rw h at e) in
          record { value = b ∷ more.value; parts = rw (h, ← more.parts) refl }
    ]

after_quote-shorter : (quote : ℕ) (text rest : List ℕ) → after_quote quote text ≡ Some rest → length rest < length text
after_quote-shorter quote text rest e =
    let k = after_quote_is quote text rest e in
    omega (arith, ap length k.parts, length-append (doubled quote k.value) (quote ∷ rest))

-- something is left, and no more than so much
pub record Leaves (o : Option (List ℕ)) (most : ℕ) : Type 0 where
  pub rest : List ℕ
  pub is : o ≡ Some rest
  pub few : length rest ≤ most

either_leaves : (o : Option (List ℕ)) (more : List ℕ) → ((r : List ℕ) → o ≡ Some r → length r ≤ length more) → Leaves (or_closed o (Some more)) (length more)
either_leaves None more few = record { rest = more; is = refl; few = omega arith }
either_leaves (Some r) more few = record { rest = r; is = refl; few = few r refl }

or_leaves : (o other : Option (List ℕ)) (most : ℕ) → Leaves o most → Leaves (or_closed o other) most
or_leaves o other most l = record { rest = l.rest; is = ap (λ x. or_closed x other) l.is; few = l.few }

-- wherever a quote may close, what is left is no longer than what stands behind it
pub quote_leaves : (quote : ℕ) (value more : List ℕ) → Leaves (after_quote quote (doubled quote value ++ (quote ∷ more))) (length more)
quote_leaves quote [] [] = rw (same_quote quote) (record { rest = []; is = refl; few = omega arith })
quote_leaves quote [] (c ∷ more) =
    elim (cases_Bool (eqb c quote)) [
      | inl h ↦ rw (same_quote quote, h) (either_leaves (after_quote quote more) (c ∷ more) (λ r e. let short = after_quote-shorter quote more r e in omega (arith, short)))
      | inr h ↦ rw (same_quote quote, h) (record { rest = c ∷ more; is = refl; few = omega arith })
    ]
quote_leaves quote (b ∷ bs) more =
    elim (cases_Bool (eqb b quote)) [
      | inl h ↦ rw (h, same_quote quote) (or_leaves (after_quote quote (doubled quote bs ++ (quote ∷ more))) (Some (quote ∷ (doubled quote bs ++ (quote ∷ more)))) (length more) (quote_leaves quote bs more))
      | inr h ↦ rw h (subst (λ (o : Option (List ℕ)). Leaves o (length more)) (sym (skip_octet quote b (doubled quote bs ++ (quote ∷ more)) h)) (quote_leaves quote bs more))
    ]

-- ---- as the loop goes on

pub or_none : (o : Option (List ℕ)) → or_closed o None ≡ o
or_none None = refl
or_none (Some rest) = refl

or_first : (o closed : Option (List ℕ)) (more : List ℕ) → or_closed (or_closed o (Some more)) closed ≡ or_closed o (Some more)
or_first None closed more = refl
or_first (Some rest) closed more = refl

pair_kept : (quote : ℕ) (bs : List ℕ) (closed : Option (List ℕ)) → or_closed (after_quote quote (quote ∷ quote ∷ bs)) closed ≡ or_closed (after_quote quote bs) (Some (quote ∷ bs))
pair_kept quote bs closed = rw (same_quote quote) (or_first (after_quote quote bs) closed (quote ∷ bs))

-- behind two quotes what is found goes on, and the second of them is what was left behind the first
pub pair_passed : (quote b c : ℕ) (rest after behind : List ℕ) (closed all : Option (List ℕ)) → rest ≡ b ∷ after → after ≡ c ∷ behind → b ≡ quote → c ≡ quote
    → or_closed (after_quote quote rest) closed ≡ all → or_closed (after_quote quote behind) (Some after) ≡ all
pair_passed quote b c rest after behind closed all first second is also before =
    let whole : rest ≡ quote ∷ quote ∷ behind = first ∙ ap (λ (x : List ℕ). b ∷ x) second ∙ ap (λ (n : ℕ). n ∷ c ∷ behind) is ∙ ap (λ (n : ℕ). quote ∷ n ∷ behind) also in
    let kept : after ≡ quote ∷ behind = second ∙ ap (λ (n : ℕ). n ∷ behind) also in
    ap (λ (x : List ℕ). or_closed (after_quote quote behind) (Some x)) kept ∙ sym (pair_kept quote behind closed) ∙ sym (ap (λ (x : List ℕ). or_closed (after_quote quote x) closed) whole) ∙ before

-- the first of a list that has one
pub head_rest : (xs : List ℕ) (d : ℕ) → 1 ≤ length xs → xs ≡ get_or xs 0 d ∷ take (length xs - 1) (drop 1 xs)
head_rest [] d h = absurd (omega (arith, h))
head_rest (x ∷ xs) d h = ap (λ (ys : List ℕ). x ∷ ys) (sym (between_to_end (x ∷ xs) 1 (length (x ∷ xs)) (omega arith)))

-- ---- the kind of a token by its first octets

-- what the first octet of a word, of a quote, of a number and of a symbol isn't
abbrev pub IsPlain : ℕ → Type 0
IsPlain b = (is_ascii_alphabetic b ≡ false) × (eqb b 34 ≡ false) × (eqb b 39 ≡ false)

digit_is_plain : (b : ℕ) → is_ascii_digit b ≡ true → IsPlain b
digit_is_plain b e = (grind (arith, nat_tests), grind (arith, nat_tests), grind (arith, nat_tests))

-- what holds of each octet of a list holds of one that is found in it
from_any : (P : ℕ → Type 0) (bs : List ℕ) (b : ℕ) → list_any (λ c. eqb c b) bs ≡ true → AllByRecursion P bs → P b
from_any P [] b e all = absurd cc
from_any P (c ∷ bs) b e all =
    elim (or_cases (eqb c b) (list_any (λ d. eqb d b) bs) e) [
      | inl h ↦ subst P (eqb-true c b h) all.0
      | inr h ↦ from_any P bs b h all.1
    ]

pub symbol_is_plain : (b : ℕ) → is_single_symbol b ≡ true → IsPlain b × (is_ascii_digit b ≡ false)
symbol_is_plain b e =
    from_any (λ c. IsPlain c × (is_ascii_digit c ≡ false)) (codes "(),.;*+-/=<>") b e (
      ((refl, refl, refl), refl),
      (
        ((refl, refl, refl), refl),
        (
          ((refl, refl, refl), refl),
          (
            ((refl, refl, refl), refl),
            (
              ((refl, refl, refl), refl),
              (
                ((refl, refl, refl), refl),
                (
                  ((refl, refl, refl), refl),
                  (
                    ((refl, refl, refl), refl),
                    (((refl, refl, refl), refl), (((refl, refl, refl), refl), (((refl, refl, refl), refl), (((refl, refl, refl), refl), tt)))),
                  ),
                ),
              ),
            ),
          ),
        ),
      ),
    )

pub double_is_single : (b c : ℕ) → is_double_symbol b c ≡ true → is_single_symbol b ≡ true
double_is_single b c e =
    elim (or_cases ((eqb b 60) && ((eqb c 61) || (eqb c 62))) ((eqb b 62) && (eqb c 61)) e) [
      | inl h ↦ rw (eqb-true b 60 (and_parts (eqb b 60) ((eqb c 61) || (eqb c 62)) h).0) refl
      | inr h ↦ rw (eqb-true b 62 (and_parts (eqb b 62) (eqb c 61) h).0) refl
    ]

pub plain_kind : (b : ℕ) (bs : List ℕ) → IsPlain b → kind_at (b ∷ bs) ≡ cond (is_ascii_digit b || ((eqb b 46) && begins_with is_ascii_digit bs)) Number Symbol
plain_kind b bs p = rw (p.0, p.1, p.2) refl

pub number_kind : (octets rest : List ℕ) → IsNumber octets → kind_at (octets ++ rest) ≡ Number
number_kind [] rest n = absurd (omega (arith, n.some_digit))
number_kind (b ∷ []) rest n =
    let each = recursion_from_All (λ c. IsTrue (is_number_octet c)) (b ∷ []) n.digits_and_point in
    elim (or_cases (is_ascii_digit b) (eqb b 46) each.0) [
      | inl h ↦ plain_kind b rest (digit_is_plain b h) ∙ rw h refl
      | inr h ↦
          let some : 0 < count_by is_ascii_digit (46 ∷ []) = rw (eqb-true b 46 h) at n.some_digit in
          absurd (omega (arith, some))
    ]
number_kind (b ∷ c ∷ bs) rest n =
    let each = recursion_from_All (λ c. IsTrue (is_number_octet c)) (b ∷ c ∷ bs) n.digits_and_point in
    elim (or_cases (is_ascii_digit b) (eqb b 46) each.0) [
      | inl h ↦ plain_kind b (c ∷ (bs ++ rest)) (digit_is_plain b h) ∙ rw h refl
      | inr h ↦ elim (or_cases (is_ascii_digit c) (eqb c 46) each.1.0) [
        | inl k ↦ rw (eqb-true b 46 h, k) refl
        | inr k ↦
            let two : count_by (λ d. eqb d 46) (46 ∷ 46 ∷ bs) ≤ 1 = rw (eqb-true b 46 h, eqb-true c 46 k) at n.one_point in
            let points : ℕ → ℕ = λ d. cond (eqb d 46) 1 0 in
            absurd (omega (arith, two, sum_by-cons points 46 (46 ∷ bs), sum_by-cons points 46 bs))
      ]
    ]

-- what no longer front of the text is
abbrev IsLongest : List ℕ → List ℕ → Type 0
IsLongest text octets = (other : Lexeme) (more : List ℕ) → text ≡ other.octets ++ more → HasForm other.kind other.octets → length other.octets ≤ length octets

point_number : (c : ℕ) → is_ascii_digit c ≡ true → IsNumber (46 ∷ c ∷ [])
point_number c h =
    let no_point : eqb c 46 ≡ false = grind (arith, nat_tests) in
    record { digits_and_point = All-from_recursion (λ b. IsTrue (is_number_octet b)) (46 ∷ c ∷ []) (refl, (or_left (is_ascii_digit c) (eqb c 46) h, tt)); one_point = rw no_point (omega arith); some_digit = rw h (omega arith) }

symbol_kind : (octets rest : List ℕ) → IsSymbol octets → IsLongest (octets ++ rest) octets → kind_at (octets ++ rest) ≡ Symbol
symbol_kind [] rest s longest = absurd s
symbol_kind (b ∷ []) [] s longest =
    let p = symbol_is_plain b s in
    plain_kind b [] p.0 ∙ rw p.1 (elim (cases_Bool (eqb b 46)) [ inl h ↦ rw h refl | inr h ↦ rw h refl ])
symbol_kind (b ∷ []) (c ∷ rest) s longest =
    let p = symbol_is_plain b s in
    elim (cases_Bool ((eqb b 46) && is_ascii_digit c)) [
      | inl h ↦
          let both = and_parts (eqb b 46) (is_ascii_digit c) h in
          let number : IsNumber (b ∷ c ∷ []) = rw (eqb-true b 46 both.0) (point_number c both.1) in
          let short : 2 ≤ 1 = longest (record { kind = Number; octets = b ∷ c ∷ [] }) rest refl number in
          absurd (omega (arith, short))
      | inr h ↦ plain_kind b (c ∷ rest) p.0 ∙ rw (p.1, h) refl
    ]
symbol_kind (b ∷ c ∷ []) rest s longest =
    elim (or_cases ((eqb b 60) && ((eqb c 61) || (eqb c 62))) ((eqb b 62) && (eqb c 61)) s) [
      | inl h ↦ rw (eqb-true b 60 (and_parts (eqb b 60) ((eqb c 61) || (eqb c 62)) h).0) refl
      | inr h ↦ rw (eqb-true b 62 (and_parts (eqb b 62) (eqb c 61) h).0) refl
    ]
symbol_kind (b ∷ c ∷ d ∷ bs) rest s longest = absurd s

pub word_kind : (octets rest : List ℕ) → IsWord octets → kind_at (octets ++ rest) ≡ Word
word_kind [] rest w = absurd w
word_kind (b ∷ bs) rest w = rw w.0 refl

form_kind : (kind : Kind) (octets rest : List ℕ) → HasForm kind octets → IsLongest (octets ++ rest) octets → kind_at (octets ++ rest) ≡ kind
form_kind Word octets rest form longest = word_kind octets rest form
form_kind DelimitedIdentifier octets rest form longest = rw form.2 refl
form_kind CharacterString octets rest form longest = rw form.1 refl
form_kind Number octets rest form longest = number_kind octets rest form
form_kind Symbol octets rest form longest = symbol_kind octets rest form longest

-- the first octets decide the kind
pub begins_kind : (text : List ℕ) (t : Lexeme) (rest : List ℕ) → Begins text t rest → kind_at text ≡ t.kind
begins_kind text t rest b =
    ap kind_at b.parts ∙ form_kind t.kind t.octets rest b.form (subst (λ (all : List ℕ). IsLongest all t.octets) b.parts b.longest)

-- ---- fronts and what follows them

-- all but the first octet, as a range
pub behind_first : (text : List ℕ) → take (length text - 1) (drop 1 text) ≡ drop 1 text
behind_first text = between_to_end text 1 (length text) (omega arith)

-- the front that a run takes, cut off by length
pub front_is : (front rest : List ℕ) → take (length (front ++ rest) - length rest) (front ++ rest) ≡ front
front_is front rest =
    let n : length (front ++ rest) - length rest ≡ length front = omega (arith, length-append front rest) in
    rw n (take_at front rest (length front) refl)

pub front_of : (text front rest : List ℕ) → text ≡ front ++ rest → take (length text - length rest) text ≡ front
front_of text front rest parts = rw parts (front_is front rest)

pub after_run-shorter : (test : ℕ → Bool) (text : List ℕ) → length (after_run test text) ≤ length text
after_run-shorter test text = let run = after_run_is test text in omega (arith, ap length run.parts, length-append run.front (after_run test text))

pub number_octet_is_word : (b : ℕ) → is_number_octet b ≡ true → is_word_octet_or_point b ≡ true
number_octet_is_word b e =
    elim (or_cases (is_ascii_digit b) (eqb b 46) e) [
      | inl h ↦ or_left (is_word_octet b) (eqb b 46) (or_left (is_ascii_alphabetic b || is_ascii_digit b) (eqb b 95) (or_right (is_ascii_alphabetic b) (is_ascii_digit b) h))
      | inr h ↦ or_right (is_word_octet b) (eqb b 46) h
    ]

pub all_weaker : (P Q : ℕ → Type 0) → ((b : ℕ) → P b → Q b) → (bs : List ℕ) → AllByRecursion P bs → AllByRecursion Q bs
all_weaker P Q h [] all = tt
all_weaker P Q h (b ∷ bs) all = (h b all.0, all_weaker P Q h bs all.1)

abbrev pub after_kind_of : Kind → List ℕ → Option (List ℕ)
after_kind_of Word text = Some (after_run is_word_octet text)
after_kind_of DelimitedIdentifier text = after_quote 34 (drop 1 text)
after_kind_of CharacterString text = after_quote 39 (drop 1 text)
after_kind_of Number text = Some (after_run is_word_octet_or_point text)
after_kind_of Symbol text = after_symbol text

pub word_passes : (octets : List ℕ) → IsWord octets → AllByRecursion (λ b. is_word_octet b ≡ true) octets
word_passes [] w = absurd w
word_passes (b ∷ bs) w = (rw w.0 refl, w.1)

pub behind_opening : (quote : ℕ) (octets value rest : List ℕ) → octets ≡ quoted quote value → drop 1 (octets ++ rest) ≡ doubled quote value ++ (quote ∷ rest)
behind_opening quote octets value rest form = rw form (append_assoc (doubled quote value) (quote ∷ []) rest)
