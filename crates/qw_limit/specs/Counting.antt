-- A local that counts down: a block is done while the local is above 0, and then it is one less. So what was counted can be told from the number of
-- instructions that were executed.
use Rattle.std.specs.Prelude.{◌≡◌, ◌≢◌, ℕ, ◌*◌, ◌≤◌, ◌⊎◌}
use Rattle.qw_module.specs.declared.instruction.ValType.TheVariants.{I64}
use Rattle.qw_module.specs.declared.instruction.Const.TheVariants as const
use Rattle.qw_module.specs.declared.instruction.Binary.TheVariants.{Sub}
use Rattle.qw_low.specs.Syntax.{constant_of, local, binop, is_zero, Statement, skip, seq, assign, load, store, conditional, while, request, raise, exit}
use Rattle.qw_low.specs.State.{LowState}
use Rattle.qw_low.specs.Meaning.{Outcome, Completed, Exited, Stopped, Wrong, Unfinished}
use Rattle.qw_low.specs.Promise.{Ends}

-- ---- the block
abbrev pub less_block : (z : ℕ) → Statement
less_block z = assign z (binop I64 Sub (local z) (constant_of (const.I64 1)))

-- a block is done where the local isn't 0, and is counted
abbrev pub guarded_block : (z : ℕ) → Statement → Statement
guarded_block z b = conditional (is_zero I64 (local z)) skip (seq b (less_block z))

-- ---- where the local is set
-- nowhere, but to what it holds
abbrev pub Spares : (z : ℕ) → Statement → Type 0
Spares z skip = Unit {0}
Spares z (seq a b) = Spares z a × Spares z b
Spares z (assign x e) = (x ≢ z) ⊎ (e ≡ local z)
Spares z (load x l offset a) = x ≢ z
Spares z (store st offset a e) = Unit {0}
Spares z (conditional e a b) = Spares z a × Spares z b
Spares z (while e a) = Spares z a
Spares z (request e x) = x ≢ z
Spares z (raise code) = Unit {0}
Spares z exit = Unit {0}

-- a guarded block, within which it isn't set
abbrev pub IsGuarded : (z : ℕ) → Statement → Type 0
IsGuarded z a = (b : Statement) × (a ≡ guarded_block z b) × Spares z b

-- in guarded blocks alone
abbrev pub CountsDown : (z : ℕ) → Statement → Type 0
CountsDown z skip = Unit {0}
CountsDown z (seq a b) = CountsDown z a × CountsDown z b
CountsDown z (assign x e) = (x ≢ z) ⊎ (e ≡ local z)
CountsDown z (load x l offset a) = x ≢ z
CountsDown z (store st offset a e) = Unit {0}
CountsDown z (conditional e a b) = (CountsDown z a × CountsDown z b) ⊎ IsGuarded z (conditional e a b)
CountsDown z (while e a) = CountsDown z a
CountsDown z (request e x) = x ≢ z
CountsDown z (raise code) = Unit {0}
CountsDown z exit = Unit {0}

-- ---- how long a run is
-- It is over after so many instructions at least. Its count is at most twice theirs, since it counts each `local.tee` as two.
abbrev pub TakesAtLeast : (least : ℕ) → Outcome → Type 0
TakesAtLeast least (Completed n t) = 2 * least ≤ n
TakesAtLeast least (Exited n t) = 2 * least ≤ n
TakesAtLeast least (Stopped code n t) = 2 * least ≤ n
TakesAtLeast least Wrong = ⊥
TakesAtLeast least Unfinished = ⊥

-- It ends within a count of so many as `post`, `exits` and `raises` say; or it takes at least so many instructions, and ends as `other`, `exits` and `others` say.
abbrev pub EndsOrTakes : (least most : ℕ) → (post other exits : LowState → Type 0) → (raises others : ℕ → Type 0) → Outcome → Type 0
EndsOrTakes least most post other exits raises others out = Ends most post exits raises out ⊎ (Ends most other exits others out × TakesAtLeast least out)
