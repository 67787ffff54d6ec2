-- An empty table is placed.
use Rattle.std.proofs.Common.{◌≡◌, ℕ, ◌+◌, ◌-◌, ◌*◌, ◌^◌, ◌%◌, ◌<◌, ◌≤◌, inl, inr, List, [], length, length-set, Some, slice_get, slice_set, refl, ◌∙◌, ⊎_elim, arith}
use Rattle.std.proofs.lemmas.Bool.{le-leb}
use Rattle.std.proofs.lemmas.List.Sorted.{IsPermutation-refl}
use Rattle.qw_types.specs.declared.value.Val.{Val}
use Rattle.qw_linear.specs.Memory.{page}
use Rattle.qw_map.proofs.TurnFacts.{slice_get-set_same, slice_get-set_other}
use Rattle.qw_module.specs.declared.instruction.ValType.TheVariants.{I32}
use Rattle.qw_module.specs.declared.instruction.Binary.TheVariants.{Sub}
use Rattle.qw_low.specs.Syntax.{local, binop, advance, Statement, seq, assign}
use Rattle.qw_low.specs.State.{Own, Number, Address, Cells, LowState}
use Rattle.qw_low.specs.Meaning.{value, meaning}
use Rattle.qw_low.specs.Promise.{Ends}
use Rattle.qw_low.proofs.Promises.{assign_ends}
use Rattle.qw_low.proofs.BlockSteps.{assign_then}
use Rattle.qw_feed.specs.Frames.{pos, Keeps, From, Below, Before}
use Rattle.qw_feed.specs.Room.{i32, HasRoom, Paid}
use Rattle.qw_feed.proofs.Frames.{Never, Keeps-set, Keeps-less}
use Rattle.qw_feed.proofs.RoomRuns.{IsRefusal, Roomy}
use Rattle.qw_table.specs.Tables.{HasTable}

module _ (Has : Cells → ℕ → ℕ → List Val → Type 0) (slot : List Val → ℕ) (size d u budget most fuel : ℕ) (d_high : 5 ≤ d) (u_low : u ≤ page) (s : LowState) (many : d < length s.locals) (part offset : ℕ)
    (h : HasRoom part offset s) (paid : Paid u budget offset s.held) (enough : budget + u + 4096 + 2 * u < (most + 1) * u) where
  abbrev front : ℕ
  front = pos part offset

  -- an empty table, behind what there was; what stood there is as it was
  pub record Placed (t : LowState) : Type 0 where
    pub k : ℕ
    pub o : ℕ
    pub behind : front ≤ pos k o
    pub keeps : Keeps (Below d) (Before front) s t
    pub table : HasTable Has slot size k o d u (budget + u + 4096) [] t

  module _ (t : LowState) (r : Roomy 4096 u (budget + u) front s t) where
    abbrev k : ℕ
    k = r.part

    abbrev o : ℕ
    o = r.offset

    abbrev t1 : LowState
    t1 = record t { locals = slice_set t.locals d (Address (Own k) o) }

    abbrev t2 : LowState
    t2 = record t1 { locals = slice_set t1.locals 1 (Address (Own k) (o + 4096)) }

    abbrev t3 : LowState
    t3 = record t2 { locals = slice_set t2.locals 2 (Number (page - (o + 4096))) }

    many1 : length t1.locals ≡ length s.locals
    many1 = length-set t.locals d (Address (Own k) o) ∙ r.keeps.many

    many2 : length t2.locals ≡ length s.locals
    many2 = length-set t1.locals 1 (Address (Own k) (o + 4096)) ∙ many1

    d_there : slice_get t3.locals d ≡ Some (Address (Own k) o)
    d_there = slice_get-set_other t2.locals 2 d (Number (page - (o + 4096))) (λ e. omega (arith, e, d_high)) ∙ (slice_get-set_other t1.locals 1 d (Address (Own k) (o + 4096)) (λ e. omega (arith, e, d_high))
        ∙ slice_get-set_same t.locals d (Address (Own k) o) (omega (arith, many, r.keeps.many)))

    keeps3 : Keeps (Below d) (Before front) s t3
    keeps3 = Keeps-set (Below d) (Before front) s t2 2 (Number (page - (o + 4096))) (λ i old e. ⊎_elim (λ z. omega (arith, z, e)) (λ g. omega (arith, g.0, e)) old)
        (Keeps-set (Below d) (Before front) s t1 1 (Address (Own k) (o + 4096)) (λ i old e. ⊎_elim (λ z. omega (arith, z, e)) (λ g. omega (arith, g.0, e)) old)
        (Keeps-set (Below d) (Before front) s t d (Address (Own k) o) (λ i old e. ⊎_elim (λ z. omega (arith, z, e, d_high)) (λ g. omega (arith, g.1, e)) old)
        (Keeps-less (Below d) (Before front) (From 3) (Before front) s t (λ i old. ⊎_elim (λ is. inl is) (λ g. inr (omega (arith, g.0))) old) (λ at width below. below) r.keeps)))

    placed : Placed t3
    placed = record {
      k = k;
      o = o;
      behind = r.behind;
      keeps = keeps3;
      table = record {
        part = k;
        offset = o + 4096;
        room = record {
          last = r.room.last;
          pages = r.room.pages;
          within = r.fits;
          free = slice_get-set_other t2.locals 2 1 (Number (page - (o + 4096))) (λ e. omega (arith, e)) ∙ slice_get-set_same t1.locals 1 (Address (Own k) (o + 4096)) (omega (arith, many, many1, d_high));
          left = slice_get-set_same t2.locals 2 (Number (page - (o + 4096))) (omega (arith, many, many2, d_high));
          zeros = λ a b from to. r.room.zeros a b (omega arith) to;
          owned = r.room.owned;
          limited = r.room.limited;
          few = r.room.few;
        };
        at = d_there;
        chains = λ j. [];
        table = record {
          directory = record {
            sized = r.room.pages k (omega arith);
            inside = r.fits;
            behind = omega arith;
            slots = λ j low. r.room.zeros (o + 4 * j) 4 (omega arith) (omega (arith, low, r.fits));
          };
          linked = λ j low. tt;
          same = λ j low. IsPermutation-refl [];
        };
        paid = ⊎_elim inl (λ so. inr (omega (arith, so))) r.paid;
      };
    }

    further : value t1 (advance (local 1) (i32 4096)) ≡ Some (Address (Own k) (o + 4096))
    further =
        let at : slice_get t1.locals 1 ≡ Some (Address (Own k) o) = slice_get-set_other t.locals d 1 (Address (Own k) o) (λ e. omega (arith, e, d_high)) ∙ r.room.free in
        rw (at, r.room.pages k (omega arith), le-leb (o + 4096) page r.fits) refl

    fewer : value t2 (binop I32 Sub (local 2) (i32 4096)) ≡ Some (Number (page - (o + 4096)))
    fewer =
        let at : slice_get t2.locals 2 ≡ Some (Number (page - o)) = slice_get-set_other t1.locals 1 2 (Address (Own k) (o + 4096)) (λ e. omega (arith, e)) ∙ (slice_get-set_other t.locals d 2 (Address (Own k) o) (λ e. omega (arith, e, d_high)) ∙ r.room.left) in
        let difference : (page - o + 2 ^ 32 - 4096) % 2 ^ 32 ≡ page - (o + 4096) = omega (arith, r.fits) in
        rw (at, difference) refl

    abbrev lessening : Statement
    lessening = assign 2 (binop I32 Sub (local 2) (i32 4096))

    places : Ends 10 Placed Never IsRefusal (meaning most fuel (seq (assign d (local 1)) (seq (assign 1 (advance (local 1) (i32 4096))) lessening)) t)
    places = assign_then Placed Never IsRefusal most fuel t 8 (seq (assign 1 (advance (local 1) (i32 4096))) lessening) d (local 1) (Address (Own k) o) r.room.free (omega (arith, many, r.keeps.many))
        (assign_then Placed Never IsRefusal most fuel t1 4 lessening 1 (advance (local 1) (i32 4096)) (Address (Own k) (o + 4096)) further (omega (arith, many, many1, d_high))
        (assign_ends Placed Never IsRefusal most fuel 2 (binop I32 Sub (local 2) (i32 4096)) (Number (page - (o + 4096))) t2 fewer (omega (arith, many, many2, d_high)) placed))
