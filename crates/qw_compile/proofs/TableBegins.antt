-- An empty table is placed, and all locals but its directory's and those of free space are as they were.
use Rattle.std.proofs.Common.{◌≡◌, ℕ, ◌+◌, ◌-◌, ◌*◌, ◌^◌, ◌%◌, ◌<◌, ◌≤◌, inl, inr, List, [], length, length-set, Some, slice_get, slice_set, refl, ◌∙◌, subst, ⊎_elim, arith}
use Rattle.std.proofs.lemmas.Bool.{le-leb}
use Rattle.std.proofs.lemmas.List.Sorted.{IsPermutation-refl}
use Rattle.qw_types.specs.declared.value.Val.{Val}
use Rattle.qw_linear.specs.Memory.{page}
use Rattle.qw_map.proofs.TurnFacts.{slice_get-set_same, slice_get-set_other}
use Rattle.qw_module.specs.declared.instruction.ValType.TheVariants.{I32}
use Rattle.qw_module.specs.declared.instruction.Binary.TheVariants.{Sub}
use Rattle.qw_low.specs.Syntax.{local, binop, advance, Statement, seq, assign}
use Rattle.qw_low.specs.State.{Own, Number, Address, Cells, LowState}
use Rattle.qw_low.specs.Meaning.{value, meaning}
use Rattle.qw_low.specs.Promise.{Ends}
use Rattle.qw_low.proofs.Promises.{Ends-then, assign_ends}
use Rattle.qw_low.proofs.BlockSteps.{assign_then}
use Rattle.qw_feed.specs.Frames.{pos, Keeps, From, But, Before}
use Rattle.qw_feed.specs.Room.{i32, room_block, HasRoom, Paid}
use Rattle.qw_feed.proofs.Frames.{Never, Keeps-set, Keeps-less}
use Rattle.qw_feed.proofs.RoomRuns.{IsRefusal, Roomy, room_ends}
use Rattle.qw_table.specs.Tables.{HasTable, IsDirectory, directory_block}

-- Where it is: no slot leads to an entry, and free space is behind it. What stood before it, and other locals, are as they were.
pub record Begun (d u budget front : ℕ) (s t : LowState) : Type 0 where
  pub k : ℕ
  pub o : ℕ
  pub behind : front ≤ pos k o
  pub keeps : Keeps (But d (From 3)) (Before front) s t
  pub room : HasRoom k (o + 4096) t
  pub at : slice_get t.locals d ≡ Some (Address (Own k) o)
  pub directory : IsDirectory k o (pos k (o + 4096)) (λ j. []) t.cells t.own
  pub paid : Paid u (budget + u + 4096) (o + 4096) t.held

-- so it is an empty table, whatever its entries may be
pub empty_table : (Has : Cells → ℕ → ℕ → List Val → Type 0) (slot : List Val → ℕ) (size d u budget front : ℕ) (s t : LowState) (b : Begun d u budget front s t) → HasTable Has slot size b.k b.o d u (budget + u + 4096) [] t
empty_table Has slot size d u budget front s t b = record {
  part = b.k;
  offset = b.o + 4096;
  room = b.room;
  at = b.at;
  chains = λ j. [];
  table = record { directory = b.directory; linked = λ j low. tt; same = λ j low. IsPermutation-refl [] };
  paid = subst (λ (budget' : ℕ). Paid u budget' (b.o + 4096) t.held) (let nothing : 0 * size ≡ 0 = omega arith in omega (arith, nothing)) b.paid;
}

module _ (d u budget most fuel : ℕ) (d_high : 5 ≤ d) (u_low : u ≤ page) (s : LowState) (many : d < length s.locals) (part offset : ℕ)
    (h : HasRoom part offset s) (paid : Paid u budget offset s.held) (enough : budget + u + 4096 + 2 * u < (most + 1) * u) where
  abbrev front : ℕ
  front = pos part offset

  abbrev Old : ℕ → Type 0
  Old = But d (From 3)

  abbrev BegunOf : LowState → Type 0
  BegunOf = Begun d u budget front s

  module _ (t : LowState) (r : Roomy 4096 u (budget + u) front s t) where
    abbrev k : ℕ
    k = r.part

    abbrev o : ℕ
    o = r.offset

    abbrev t1 : LowState
    t1 = record t { locals = slice_set t.locals d (Address (Own k) o) }

    abbrev t2 : LowState
    t2 = record t1 { locals = slice_set t1.locals 1 (Address (Own k) (o + 4096)) }

    abbrev t3 : LowState
    t3 = record t2 { locals = slice_set t2.locals 2 (Number (page - (o + 4096))) }

    many1 : length t1.locals ≡ length s.locals
    many1 = length-set t.locals d (Address (Own k) o) ∙ r.keeps.many

    many2 : length t2.locals ≡ length s.locals
    many2 = length-set t1.locals 1 (Address (Own k) (o + 4096)) ∙ many1

    d_there : slice_get t3.locals d ≡ Some (Address (Own k) o)
    d_there = slice_get-set_other t2.locals 2 d (Number (page - (o + 4096))) (λ e. omega (arith, e, d_high)) ∙ (slice_get-set_other t1.locals 1 d (Address (Own k) (o + 4096)) (λ e. omega (arith, e, d_high))
        ∙ slice_get-set_same t.locals d (Address (Own k) o) (omega (arith, many, r.keeps.many)))

    keeps3 : Keeps Old (Before front) s t3
    keeps3 = Keeps-set Old (Before front) s t2 2 (Number (page - (o + 4096))) (λ i old e. ⊎_elim (λ z. omega (arith, z, e)) (λ g. omega (arith, g, e)) old.0)
        (Keeps-set Old (Before front) s t1 1 (Address (Own k) (o + 4096)) (λ i old e. ⊎_elim (λ z. omega (arith, z, e)) (λ g. omega (arith, g, e)) old.0)
        (Keeps-set Old (Before front) s t d (Address (Own k) o) (λ i old e. old.1 e)
        (Keeps-less Old (Before front) (From 3) (Before front) s t (λ i old. old.0) (λ at width below. below) r.keeps)))

    begun : BegunOf t3
    begun = record {
      k = k;
      o = o;
      behind = r.behind;
      keeps = keeps3;
      room = record {
        last = r.room.last;
        pages = r.room.pages;
        within = r.fits;
        free = slice_get-set_other t2.locals 2 1 (Number (page - (o + 4096))) (λ e. omega (arith, e)) ∙ slice_get-set_same t1.locals 1 (Address (Own k) (o + 4096)) (omega (arith, many, many1, d_high));
        left = slice_get-set_same t2.locals 2 (Number (page - (o + 4096))) (omega (arith, many, many2, d_high));
        zeros = λ a b from to. r.room.zeros a b (omega (arith, from)) to;
        owned = r.room.owned;
        limited = r.room.limited;
        few = r.room.few;
      };
      at = d_there;
      directory = record {
        sized = r.room.pages k (omega arith);
        inside = r.fits;
        behind = omega arith;
        slots = λ j low. r.room.zeros (o + 4 * j) 4 (omega arith) (omega (arith, low, r.fits));
      };
      paid = ⊎_elim inl (λ so. inr (omega (arith, so))) r.paid;
    }

    further : value t1 (advance (local 1) (i32 4096)) ≡ Some (Address (Own k) (o + 4096))
    further =
        let at : slice_get t1.locals 1 ≡ Some (Address (Own k) o) = slice_get-set_other t.locals d 1 (Address (Own k) o) (λ e. omega (arith, e, d_high)) ∙ r.room.free in
        rw (at, r.room.pages k (omega arith), le-leb (o + 4096) page r.fits) refl

    fewer : value t2 (binop I32 Sub (local 2) (i32 4096)) ≡ Some (Number (page - (o + 4096)))
    fewer =
        let at : slice_get t2.locals 2 ≡ Some (Number (page - o)) = slice_get-set_other t1.locals 1 2 (Address (Own k) (o + 4096)) (λ e. omega (arith, e)) ∙ (slice_get-set_other t.locals d 2 (Address (Own k) o) (λ e. omega (arith, e, d_high)) ∙ r.room.left) in
        let difference : (page - o + 2 ^ 32 - 4096) % 2 ^ 32 ≡ page - (o + 4096) = omega (arith, r.fits) in
        rw (at, difference) refl

    abbrev lessening : Statement
    lessening = assign 2 (binop I32 Sub (local 2) (i32 4096))

    begins : Ends 10 BegunOf Never IsRefusal (meaning most fuel (seq (assign d (local 1)) (seq (assign 1 (advance (local 1) (i32 4096))) lessening)) t)
    begins = assign_then BegunOf Never IsRefusal most fuel t 8 (seq (assign 1 (advance (local 1) (i32 4096))) lessening) d (local 1) (Address (Own k) o) r.room.free (omega (arith, many, r.keeps.many))
        (assign_then BegunOf Never IsRefusal most fuel t1 4 lessening 1 (advance (local 1) (i32 4096)) (Address (Own k) (o + 4096)) further (omega (arith, many, many1, d_high))
        (assign_ends BegunOf Never IsRefusal most fuel 2 (binop I32 Sub (local 2) (i32 4096)) (Number (page - (o + 4096))) t2 fewer (omega (arith, many, many2, d_high)) begun))

  pub table_begins : Ends 26 BegunOf Never IsRefusal (meaning most fuel (directory_block d) s)
  table_begins = Ends-then BegunOf Never IsRefusal 16 10 (Roomy 4096 u (budget + u) front s) (meaning most fuel (room_block 4096) s)
      (meaning most fuel (seq (assign d (local 1)) (seq (assign 1 (advance (local 1) (i32 4096))) (assign 2 (binop I32 Sub (local 2) (i32 4096))))))
      (room_ends most fuel 4096 u budget (budget + u) (omega arith) (omega arith) (omega (arith, u_low)) s (omega (arith, many, d_high)) part offset h paid (omega (arith, enough)))
      begins
