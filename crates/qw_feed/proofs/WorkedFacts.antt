-- What the worked cases have.
use Rattle.std.proofs.Common.{◌≡◌, ℕ, ◌+◌, inl, ℤ, pos, negsuc, List, [], ◌∷◌, length, Some, refl, ap, arith}
use Rattle.std.proofs.lemmas.Bool.{le-leb}
use Rattle.std.proofs.lemmas.Option.{same_Some}
use Rattle.qw_low.specs.State.{Column, Own, Value, Number, Address}
use Rattle.qw_feed.specs.Room.{HasRoom}
use Rattle.qw_feed.specs.Cells.{cells_block}
use Rattle.qw_feed.specs.Frames.{pos as place}
use Rattle.qw_feed.specs.Rows.{Row, address, AreRows, HasRows, Fills}
use Rattle.qw_feed.specs.Worked.{number, row_at, HasOne, cells, two_rows, in_local}
use Rattle.qw_feed.proofs.CellFills.{cells_fill}

abbrev number_in : Value → ℕ
number_in (Number n) = n
number_in (Address p offset) = 0

pub same_number : (a b : ℕ) → Some (Number a) ≡ Some (Number b) → a ≡ b
same_number a b is = ap number_in (same_Some (Number a) (Number b) is)

pub two_rows_room : HasRoom 0 112 two_rows
two_rows_room = record {
  last = refl;
  pages = λ k low. let first : k ≡ 0 = omega (arith, low) in rw first refl;
  within = omega arith;
  free = refl;
  left = refl;
  zeros = λ a b from to. rw (le-leb 112 a from, le-leb (a + b) 65536 to) refl;
  owned = omega arith;
  limited = omega arith;
  few = omega arith;
}

abbrev place_in : Value → ℕ
place_in (Number n) = 0
place_in (Address (Column k) offset) = 0
place_in (Address (Own k) offset) = place k offset

-- the first of two rows begins at 64
pub begins : (found : List Row) (front : ℕ) → length found ≡ 2 → AreRows HasOne 24 cells 65 front (Number 0) found → ⊥
begins [] front two chain = cc
begins (new ∷ []) front two chain = omega (arith, two)
begins (new ∷ old ∷ []) front two chain =
    let low = chain.4.4 in
    let first : 64 ≡ place old.part old.offset = ap place_in (same_Some (Address (Own 0) 64) (address old) low.1) in
    omega (arith, low.0, first)
begins (new ∷ old ∷ more ∷ found) front two chain = omega (arith, two)

abbrev pub two_rows_there : HasRows HasOne 24 64 65512 0 (number 5 ∷ number 7 ∷ []) two_rows
two_rows_there = record {
  found = row_at 88 7 ∷ row_at 64 5 ∷ [];
  values_are = refl;
  part = 0;
  offset = 112;
  behind = omega arith;
  room = two_rows_room;
  descriptor = refl;
  link = refl;
  count = refl;
  chain = (
    refl,
    ((refl, tt), (((7, refl, omega arith, refl), refl, refl), tt)),
    omega arith,
    omega arith,
    (refl, ((refl, tt), (((5, refl, omega arith, refl), refl, refl), tt)), omega arith, omega arith, (omega arith, refl)),
  );
  paid = inl refl;
}

pub fills : Fills HasOne 24 64 128 0 (number 2) (cells_block 8 (in_local ∷ [])) two_rows
fills = cells_fill (λ p offset octets. ⊥) (in_local ∷ []) 64 128 0 (number 2) two_rows ((omega arith, omega arith, tt), tt) ((((2, refl, omega arith, refl), refl, tt), refl), tt)

abbrev magnitude : ℤ → ℕ
magnitude (pos n) = n
magnitude (negsuc n) = n

pub same_magnitude : (a b : ℕ) → pos a ≡ pos b → a ≡ b
same_magnitude a b is = ap magnitude is
