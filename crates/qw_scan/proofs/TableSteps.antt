-- A `br_table` of which nothing is kept.
use Rattle.std.proofs.Common.{◌≡◌, ℕ, Bool, true, if◌then◌else◌, List, reverse, Option, Some, None, Result, Ok, Err, slice_get, refl, sym, ap, subst, ◌∙◌}
use Rattle.std.specs.Option.{option_map, option_and_then}
use Rattle.qw_octet_grammar.specs.declared.fault.BinaryFault.{BinaryFault}
use Rattle.qw_octet_grammar.specs.Grammar.{Grammar, is, after}
use Rattle.qw_octet_grammar.specs.Numbers.{u32}
use Rattle.qw_octet_grammar.specs.Reading.{◌>>=◌, read}
use Rattle.qw_octet_grammar.specs.Vectors.{vector}
use Rattle.qw_module.specs.declared.instruction.ValType.{ValType}
use Rattle.qw_module.specs.declared.instruction.ValType.TheVariants.{I32}
use Rattle.qw_module.specs.Syntax.{done}
use Rattle.qw_module.specs.Typing.{Scope}
use Rattle.qw_module.specs.Places.{Typing, Token, branches_by}
use Rattle.qw_valid.specs.declared.operands.Refusal.{Refusal}
use Rattle.qw_valid.specs.declared.operands.Refusal.TheVariants.{IllTyped, NoMemory}
use Rattle.qw_valid.specs.Inner.Checking.{Known, anything, popped, all_popped, Around, Walked, walked, scope_at, all_take, after_table, after_br_table}
use Rattle.qw_valid.specs.Refusals.{Finds, Decides}
use Rattle.qw_valid.proofs.KindFacts.{then_from, map_from, if_from}
use Rattle.qw_scan.specs.declared.body.Walk.{Walk}
use Rattle.qw_scan.specs.Inner.Answering.{Steps}
use Rattle.qw_scan.specs.Inner.Passing.{over, vector_over}
use Rattle.qw_scan.specs.Inner.Stepping.{walks}
use Rattle.qw_scan.specs.Inner.Walking.{rounds, around_in}
use Rattle.qw_scan.proofs.SameShapes.{numbers_same}
use Rattle.qw_scan.proofs.ReadOver.{was_read}

-- ---- what is known after it

module _ (scope : Scope) (labels : List ℕ) (default : ℕ) (taken : List ValType) (known below : Known) (there : slice_get scope.labels default ≡ Some taken) (tested : popped I32 known ≡ Some below) where
  table_is : after_br_table scope labels default known ≡ after_table scope labels taken below
  table_is =
      then_from (λ ts. option_and_then (after_table scope labels ts) (popped I32 known)) (slice_get scope.labels default) taken (after_table scope labels taken below) there
      (then_from (after_table scope labels taken) (popped I32 known) below (after_table scope labels taken below) tested refl)

  pub table_known : (rest : Known) → all_take scope.labels taken labels ≡ true → all_popped taken below ≡ Some rest → after_br_table scope labels default known ≡ Some anything
  table_known rest alike left =
      table_is ∙ if_from (all_take scope.labels taken labels) (option_map (λ (k : Known). anything) (all_popped taken below)) alike ∙ map_from (λ (k : Known). anything) (all_popped taken below) rest left

  pub table_refused : {A : Type 0} (view : A → Known) (refusal : Refusal) → Decides {A = Unit {0}} (Err refusal) (all_take scope.labels taken labels) → Finds {A = A} (Err refusal) (after_br_table scope labels default known) view
  table_refused view IllTyped other = table_is ∙ ap (λ (b : Bool). if b then option_map (λ (k : Known). anything) (all_popped taken below) else None) other
  table_refused view NoMemory other = tt

-- ---- its place

abbrev pub table_grammar : Grammar Token
table_grammar = after (vector u32) (λ labels. after u32 (λ default. is (branches_by labels default)))

-- the labels that were passed over
pub labels_behind : (octets behind : List ℕ) → read (vector_over (over u32)) octets ≡ Ok (tt, behind) → (labels : List ℕ) × (read (vector u32) octets ≡ Ok (labels, behind))
labels_behind octets behind e = was_read (read (vector u32) octets) behind (sym (numbers_same octets) ∙ e)

table_read : (octets labels behind rest : List ℕ) (default : ℕ) → read (vector u32) octets ≡ Ok (labels, behind) → read u32 behind ≡ Ok (default, rest) → read table_grammar octets ≡ Ok (branches_by labels default, rest)
unfolding read
table_read octets labels behind rest default first second =
    ap (λ r. r >>= λ y. read u32 y.1 >>= λ z. Ok (branches_by y.0 z.0, z.1)) first ∙ ap (λ r. r >>= λ z. Ok (branches_by labels z.0, z.1)) second

-- what is around stays
pub around_kept : (old new : Walk) → new ≡ record old { stack = new.stack } → new.stack.below ≡ old.stack.below → around_in new ≡ around_in old
around_kept old new only below =
    ap (λ (w : Walk). rounds new.stack.below (reverse w.frames.items)) only ∙ ap (λ (kinds : List (Option ValType)). rounds kinds (reverse old.frames.items)) below

module _ (f : Typing) (known : Known) (around : List Around) (octets labels behind rest : List ℕ) (default : ℕ) (first : read (vector u32) octets ≡ Ok (labels, behind)) (second : read u32 behind ≡ Ok (default, rest)) where
  pub table_steps : {X : Type 0} (view : X → Walked × List ℕ) (x : X) (next : Known) → after_br_table (scope_at f around) labels default known ≡ Some next → (walked next around done, rest) ≡ view x →
      Steps (λ t. walks f t known around) view (Ok x) (read table_grammar octets)
  table_steps view x next typed same =
      subst (λ (r : Result (Token × List ℕ) BinaryFault). Steps (λ t. walks f t known around) view (Ok x) r) (sym (table_read octets labels behind rest default first second))
      (ap (λ (o : Option Known). option_map (λ (w : Walked). (w, rest)) (option_map (λ (k : Known). walked k around done) o)) typed ∙ ap (λ (z : Walked × List ℕ). Some z) same)

  pub table_stuck : {A X : Type 0} (view : X → Walked × List ℕ) (other : A → Known) (refusal : Refusal) → Finds {A = A} (Err refusal) (after_br_table (scope_at f around) labels default known) other →
      Steps (λ t. walks f t known around) view (Err refusal) (read table_grammar octets)
  table_stuck {A} {X} view other refusal refused =
      subst (λ (r : Result (Token × List ℕ) BinaryFault). Steps (λ t. walks f t known around) view (Err refusal) r) (sym (table_read octets labels behind rest default first second)) (by_refusal refusal refused)
    where
      by_refusal : (refusal : Refusal) → Finds {A = A} (Err refusal) (after_br_table (scope_at f around) labels default known) other →
          Steps (λ t. walks f t known around) view (Err refusal) (Ok (branches_by labels default, rest))
      by_refusal IllTyped none = ap (λ (o : Option Known). option_map (λ (k : Known). walked k around done) o) none
      by_refusal NoMemory none = tt
