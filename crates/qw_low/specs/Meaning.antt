-- What Low means: the value of an expression, and what a statement does to a state, with the number of instructions that it executes.
-- Where a local is set and the code that follows gets it at once, that counts as two, though one `local.tee` does both. It goes wrong
-- where something is not what it is used as, where an access leaves its part, where a store is in a column, where a division traps,
-- and where a request would lead past the most pages stated.
use Rattle.std.specs.Prelude.{ℕ, zero, suc, ◌+◌, ◌-◌, ◌==◌, nat_le, nat_lt, ◌&&◌, if◌then◌else◌, length, Option, Some, None, Result, Ok, Err, slice_get, slice_set}
use Rattle.std.specs.Option.{option_and_then}
use Rattle.qw_module.specs.declared.instruction.ValType.{ValType}
use Rattle.qw_module.specs.declared.instruction.ValType.TheVariants.{I32, I64}
use Rattle.qw_module.specs.declared.instruction.Load.{Load}
use Rattle.qw_module.specs.declared.trap.Trap.{Trap}
use Rattle.qw_module.specs.Numbers.{constant, unary, binary, division, truth, relation, converted, load_width, store_width}
use Rattle.qw_low.specs.Syntax.{Expression, constant_of, local, unop, binop, divop, is_zero, relop, cvtop, advance, retreat, Statement, skip, seq, assign, load, store, conditional, while, request, raise, exit}
use Rattle.qw_low.specs.State.{Value, Number, Address, Own, LowState, size_of, is_within, loaded_as, stored_as, with_cell, with_pages}

-- ---- expressions (Core 1.0, 4.4.1)
-- an operator on a number, and on two
abbrev pub of_number : (ℕ → ℕ) → Option Value → Option Value
of_number f (Some (Number x)) = Some (Number (f x))
of_number f (Some (Address p offset)) = None
of_number f None = None

abbrev pub of_numbers : (ℕ → ℕ → Option ℕ) → Option Value → Option Value → Option Value
of_numbers f (Some (Number x)) (Some (Number y)) = option_and_then (λ n. Some (Number n)) (f x y)
of_numbers f _ _ = None

-- a quotient or a remainder, unless it traps
abbrev pub if_defined : Result ℕ Trap → Option ℕ
if_defined (Ok v) = Some v
if_defined (Err why) = None

-- whether a value is 0 (4.3.2, ieqz), which an address never is
abbrev pub zero_test : ValType → Option Value → Option Value
zero_test type (Some (Number n)) = Some (Number (truth (n == 0)))
zero_test I32 (Some (Address p offset)) = Some (Number 0)
zero_test I64 (Some (Address p offset)) = None
zero_test type None = None

-- an address so many octets further on, within its part
abbrev pub advanced : LowState → Option Value → Option Value → Option Value
advanced s (Some (Address p offset)) (Some (Number n)) = if is_within (size_of s p) (offset + n) then Some (Address p (offset + n)) else None
advanced s _ _ = None

-- an address so many octets back, within its part
abbrev pub retreated : Option Value → Option Value → Option Value
retreated (Some (Address p offset)) (Some (Number n)) = if nat_le n offset then Some (Address p (offset - n)) else None
retreated _ _ = None

abbrev pub value : LowState → Expression → Option Value
value s (constant_of c) = Some (Number (constant c))
value s (local x) = slice_get s.locals x
value s (unop t u e) = of_number (unary t u) (value s e)
value s (binop t b l r) = of_numbers (λ x y. Some (binary t b x y)) (value s l) (value s r)
value s (divop t d l r) = of_numbers (λ x y. if_defined (division t d x y)) (value s l) (value s r)
value s (is_zero t e) = zero_test t (value s e)
value s (relop t r left right) = of_numbers (λ x y. Some (relation t r x y)) (value s left) (value s right)
value s (cvtop c e) = of_number (converted c) (value s e)
value s (advance a n) = advanced s (value s a) (value s n)
value s (retreat a n) = retreated (value s a) (value s n)

-- how many instructions compute it
abbrev pub cost : Expression → ℕ
cost (constant_of c) = 1
cost (local x) = 1
cost (unop t u e) = cost e + 1
cost (binop t b l r) = cost l + cost r + 1
cost (divop t d l r) = cost l + cost r + 1
cost (is_zero t e) = cost e + 1
cost (relop t r left right) = cost left + cost right + 1
cost (cvtop c e) = cost e + 1
cost (advance a n) = cost a + cost n + 1
cost (retreat a n) = cost a + cost n + 1

-- ---- statements
-- What a statement comes to, after how many instructions: it is completed; it ended the run, by `exit` or by raising a code; it
-- is wrong; or the turns of a loop did not suffice.
pub data Outcome : Type 0 where
  Completed : (count : ℕ) → LowState → Outcome
  Exited : (count : ℕ) → LowState → Outcome
  Stopped : (code count : ℕ) → LowState → Outcome
  Wrong : Outcome
  Unfinished : Outcome

-- an outcome after so many instructions
abbrev pub counting : ℕ → Outcome → Outcome
counting n (Completed m s) = Completed (n + m) s
counting n (Exited m s) = Exited (n + m) s
counting n (Stopped code m s) = Stopped code (n + m) s
counting n Wrong = Wrong
counting n Unfinished = Unfinished

-- what follows a statement that is completed
abbrev pub and_then : Outcome → (LowState → Outcome) → Outcome
and_then (Completed n s) following = counting n (following s)
and_then (Exited n s) following = Exited n s
and_then (Stopped code n s) following = Stopped code n s
and_then Wrong following = Wrong
and_then Unfinished following = Unfinished

-- a local is set, if it is there and has a value to get (4.4.3, local.set)
abbrev pub with_local : (count : ℕ) → LowState → ℕ → Option Value → Outcome
with_local n s x None = Wrong
with_local n s x (Some v) = if nat_lt x (length s.locals) then Completed n (record s { locals = slice_set s.locals x v }) else Wrong

-- what a load finds at an address (4.4.4, load)
abbrev pub found_at : LowState → Load → (offset : ℕ) → Option Value → Option Value
found_at s l offset (Some (Address p o)) = option_and_then (loaded_as l) (s.cells p (o + offset) (load_width l))
found_at s l offset _ = None

-- a store at an address, which lies in an own part (4.4.4, store)
abbrev pub put_at : (count : ℕ) → LowState → (offset width : ℕ) → Option Value → Option Value → Outcome
put_at n s offset width (Some (Address (Own k) o)) (Some v) =
    if is_within (slice_get s.own k) (o + offset + width)
    then Completed n (record s { cells = with_cell s.cells (Own k) (o + offset) width v })
    else Wrong
put_at n s offset width _ _ = Wrong

-- A choice by a value (4.4.5, if): by a number, or by an address, which is not 0.
abbrev pub by_value : Option Value → (ℕ → Outcome) → Outcome
by_value (Some (Number n)) f = f n
by_value (Some (Address p o)) f = f 1
by_value None f = Wrong

abbrev pub unless_zero : ℕ → (other zeroth : Outcome) → Outcome
unless_zero zero other zeroth = zeroth
unless_zero (suc n) other zeroth = other

-- A loop of at most so many turns: the condition, and unless it is 0 the body and the loop again. It is tested before the loop is
-- entered, and again at the end of each turn, from where the loop is begun anew (4.4.5, if, loop and br_if).
abbrev pub turns : Expression → (LowState → Outcome) → (fuel : ℕ) → LowState → Outcome
turns e body zero s = Unfinished
turns e body (suc fuel) s =
    by_value (value s e) (λ n. unless_zero n
    (counting (cost e + 2) (and_then (body s) (λ t. turns e body fuel t)))
    (Completed (cost e + 1) s))

-- an exception's code is raised: 1 or 2 (4.4.7)
abbrev pub raised : ℕ → LowState → Outcome
raised (suc zero) s = Stopped 1 2 s
raised (suc (suc zero)) s = Stopped 2 2 s
raised _ s = Wrong

-- Pages are asked for, one at least: they are granted where they stay within the limit, and else 3 is raised (4.4.4, memory.grow).
-- A request that would lead past `most` pages is wrong.
abbrev pub granted_or_refused : (most cost : ℕ) → LowState → (to pages : ℕ) → Outcome
granted_or_refused most n s x pages =
    if nat_lt x (length s.locals) && (nat_le 1 pages && nat_le (s.held + pages) most)
    then (if nat_le (s.held + pages) s.limit
    then Completed (n + 9) (record (with_pages s pages) { locals = slice_set s.locals x (Address (Own (length s.own)) 0) })
    else Stopped 3 (n + 7) (record s { refused = Some pages }))
    else Wrong

abbrev pub requested : (most cost : ℕ) → LowState → (to : ℕ) → Option Value → Outcome
requested most n s x (Some (Number pages)) = granted_or_refused most n s x pages
requested most n s x (Some (Address p o)) = Wrong
requested most n s x None = Wrong

-- What a statement does to a state, with at most `fuel` turns of each loop, and no request that leads past `most` pages.
abbrev pub meaning : (most fuel : ℕ) → Statement → LowState → Outcome
meaning most fuel skip s = Completed 0 s
meaning most fuel (seq a b) s = and_then (meaning most fuel a s) (meaning most fuel b)
meaning most fuel (assign x e) s = with_local (cost e + 1) s x (value s e)
meaning most fuel (load x l offset a) s = with_local (cost a + 2) s x (found_at s l offset (value s a))
meaning most fuel (store st offset a e) s =
    put_at (cost a + cost e + 1) s offset (store_width st) (value s a) (option_and_then (stored_as st) (value s e))
meaning most fuel (conditional e a b) s =
    by_value (value s e) (λ n. counting (cost e + 1) (unless_zero n (meaning most fuel a s) (meaning most fuel b s)))
meaning most fuel (while e a) s = turns e (meaning most fuel a) fuel s
meaning most fuel (request e x) s = requested most (cost e) s x (value s e)
meaning most fuel (raise code) s = raised code s
meaning most fuel exit s = Exited 1 s
