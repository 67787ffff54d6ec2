-- What the emission of a scan leaves, whatever is done at its rows, and where code is that was added to a block behind what there was.
use Rattle.std.proofs.Common.{◌≡◌, ℕ, ◌+◌, Some, List, [], ◌++◌, length, slice_get, refl, ap, ◌∙◌, subst, arith}
use Rattle.qw_module.specs.declared.instruction.ValType.{ValType}
use Rattle.qw_low.specs.Syntax.{Statement}
use Rattle.qw_expr.specs.Computes.{Known}
use Rattle.qw_expr.specs.Emits.{free_of}
use Rattle.qw_expr.specs.declared.emitter.Emitter.{Emitter}
use Rattle.qw_read.specs.Reading.{BeginsAll}
use Rattle.qw_read.specs.declared.reader.Reader.{Reader}
use Rattle.qw_physical.specs.Physical.{Operator, Pipeline}
use Rattle.qw_operator.specs.Carries.{EmitsRow, IsRow}
use Rattle.qw_operator.specs.Grouping.{Group}
use Rattle.qw_compile.specs.Placed.{literals_placed}
use Rattle.qw_compile.specs.QueryLocals.{readers_over}
use Rattle.qw_compile.specs.Statements.{Course}
use Rattle.qw_compile.specs.declared.courses.Places.{Places}
use Rattle.qw_compile_whole.specs.GroupedPlaced.{gathering_of}
use Rattle.qw_compile_whole.specs.GroupedStatements.{IsGatheringTo}

-- where an emitter has no locals of its own yet, those that it adds are behind these
pub free_at : (e : Emitter) (first : ℕ) (own : List ValType) → e.first ≡ first + length own → e.own.items ≡ [] → free_of e ≡ first + length own
free_at e first own first_is own0 = let none = ap (λ (l : List ValType). length l) own0 in omega (arith, none, first_is)

-- what began with nothing is what was added
pub behind_none : {A : Type 0} (old new begun all more : List A) → new ≡ old ++ all → all ≡ begun ++ more → begun ≡ [] → new ≡ old ++ more
behind_none old new begun all more one two none = one ∙ ap (λ (l : List _). old ++ l) (two ∙ ap (λ (l : List _). l ++ more) none)

module _ (E : List Known → (next : ℕ) → Statement → List ValType → Type 0) where
  pub scan_placed : (p : Places) (first entry : ℕ) (operators : List Operator) (g : Group) (own_old : List ValType) (e0 e1 : Emitter) (head : Reader) (begins : Statement) → e0.first ≡ first + length own_old → e0.own.items ≡ [] →
      (e : EmitsRow E (literals_placed p) (readers_over entry p.readers.items) operators e0 e1) → slice_get (readers_over entry p.readers.items) 0 ≡ Some head → BeginsAll (readers_over entry p.readers.items) begins →
      IsGatheringTo E (literals_placed p) p.readers.items (first + length own_old) (gathering_of entry operators g) (record { index = head.index; begins = begins; row = e.statement }) e.own
  scan_placed p first entry operators g own_old e0 e1 head begins first_is own0 e head_is all = record {
    first = head;
    first_is = head_is;
    index_is = refl;
    begins = all;
    row = subst (λ (n : ℕ). IsRow E (literals_placed p) (readers_over entry p.readers.items) n operators e.statement e.own) (free_at e0 first own_old first_is own0) e.row;
  }

  -- what its blocks are doesn't depend on its sink
  pub scan_as : (literals : List Known) (readers : List Reader) (next : ℕ) (p q : Pipeline) (c : Course) (own : List ValType) → p.entry ≡ q.entry → p.operators ≡ q.operators → IsGatheringTo E literals readers next p c own → IsGatheringTo E literals readers next q c own
  scan_as literals readers next p q c own one two h = record {
    first = h.first;
    first_is = subst (λ (n : ℕ). slice_get (readers_over n readers) 0 ≡ Some h.first) one h.first_is;
    index_is = h.index_is;
    begins = subst (λ (n : ℕ). BeginsAll (readers_over n readers) c.begins) one h.begins;
    row = subst (λ (n : ℕ). IsRow E literals (readers_over n readers) next q.operators c.row own) one
        (subst (λ (os : List Operator). IsRow E literals (readers_over p.entry readers) next os c.row own) two h.row);
  }
