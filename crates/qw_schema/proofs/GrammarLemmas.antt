-- The readers of src/parse/form.rt read the grammar's rules exactly: a lemma for each rule.
use Rattle.std.proofs.Common.{◌≡◌, ℕ, Bool, cond, ◌&&◌, not, true, false, List, [], ◌∷◌, Option, Some, refl, inl, inr}
use Rattle.std.specs.Prelude.{◌⊎◌}
use Rattle.std.proofs.lemmas.Bool.{and_parts}
use Rattle.qw_token.specs.Token.{Lexeme}
use Rattle.qw_ast.specs.Grammar.{folded, regular, Matches}
use Rattle.qw_schema.specs.Inner.Parser.{is_word, is_reserved, regular_of, regular_at}
use Rattle.qw_schema.proofs.TerminalLemmas.{guard_some, is_word-Decides, not_reserved-Decides}
use Rattle.qw_schema.proofs.FormLemmas.{ReadsExactly, Anything, token_exactly}

-- ---- a name

regular_found : (t : Lexeme) (name : List ℕ) → regular_of t ≡ Some name → (w : List ℕ) × (w ≡ name) × Matches (regular w) t
regular_found t name e =
    let g = guard_some (is_word t.kind && not (is_reserved (folded t.octets))) (folded t.octets) name e in
    let tests = and_parts (is_word t.kind) (not (is_reserved (folded t.octets))) g.0 in
    (folded t.octets, g.1, ((is_word-Decides t.kind).0 tests.0, refl, (not_reserved-Decides (folded t.octets)).0 tests.1))

regular_matched : (name : List ℕ) (t : Lexeme) → Matches (regular name) t → regular_of t ≡ Some name
regular_matched name t h = rw (h.0, h.1, (not_reserved-Decides name).1 h.2) refl

pub regular_exactly : ReadsExactly (λ name. regular name ∷ []) (λ name. name) Anything regular_at
unfolding regular_at
regular_exactly = token_exactly regular (λ name. name) regular_of regular_found regular_matched

pub choice_some : {A : Type 0} (b : Bool) (x y : A) (o : Option A) → cond b (Some x) o ≡ Some y → ((b ≡ true) × (x ≡ y)) ⊎ (o ≡ Some y)
choice_some true x y o e = inl (refl, cc)
choice_some false x y o e = inr e
