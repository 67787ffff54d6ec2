-- Grammars of octets that are read from the left (WebAssembly Core Specification 1.0, 5.1.1): the octets that a grammar spells
-- a value by, and the first construct from the left that no rule allows.
use Rattle.std.specs.Prelude.{◌≡◌, ℕ, zero, suc, ◌≤◌, ◌<◌, Bool, true, false, List, [], ◌∷◌, ◌++◌, length, take, drop, Result, Ok, Err, ◌⊎◌}
use Rattle.qw_octet_grammar.specs.declared.fault.BinaryFault.{BinaryFault}
use Rattle.qw_octet_grammar.specs.declared.fault.BinaryFault.TheVariants.{NotModule}

-- after an item: a state in which another one comes, or what all of them stand for
pub data Next (S A : Type 0) : Type 0 where
  goes_on : S → Next S A
  ends : A → Next S A

-- a grammar whose octets stand for values of a type
pub data Grammar : Type 0 → Type 1 where
  -- no octets, which stand for this
  is : {A : Type 0} → A → Grammar A
  -- no rule allows what was just read
  refuse : {A : Type 0} → BinaryFault → Grammar A
  -- an octet, by which it goes on
  octet : {A : Type 0} → (ℕ → Grammar A) → Grammar A
  -- so many octets, by which it goes on
  octets : {A : Type 0} → ℕ → (List ℕ → Grammar A) → Grammar A
  -- one after the other, the second by what the first stands for
  after : {A B : Type 0} → Grammar B → (B → Grammar A) → Grammar A
  -- what fills so many octets, or only begins them, where the rest is passed over
  within : {A : Type 0} → ℕ → (passes : Bool) → Grammar A → Grammar A
  -- items, each beginning with an octet, from a state on until one is the last
  items : {S A : Type 0} → S → (S → ℕ → Grammar (Next S A)) → Grammar A

-- one of two, by a test
abbrev pub pick : {A : Type 0} → Bool → Grammar A → Grammar A → Grammar A
pick true g h = g
pick false g h = h

-- a value, or a construct that no rule allows
abbrev pub settle : {A : Type 0} → Result A BinaryFault → Grammar A
settle (Ok x) = is x
settle (Err f) = refuse f

-- ---- what is spelled

-- behind an octet
abbrev pub Behind : (ℕ → List ℕ → Type 0) → List ℕ → Type 0
Behind P [] = ⊥
Behind P (b ∷ text) = P b text

-- at most n items, of which the last leads to x
abbrev pub Chain : {S A : Type 0} → (S → ℕ → Next S A → List ℕ → Type 0) → ℕ → Next S A → A → List ℕ → Type 0
Chain P n (ends y) x text = (y ≡ x) × (text ≡ [])
Chain P zero (goes_on s) x text = ⊥
Chain {S} {A} P (suc n) (goes_on s) x text =
    Behind (λ b rest. (r : Next S A) × (first second : List ℕ) × (rest ≡ first ++ second) × P s b r first × Chain P n r x second) text

-- the octets stand for x
unfoldable pub Spells : {A : Type 0} → Grammar A → A → List ℕ → Type 0
Spells (is a) x text = (a ≡ x) × (text ≡ [])
Spells (refuse f) x text = ⊥
Spells (octet k) x text = Behind (λ b. Spells (k b) x) text
Spells (octets n k) x text = (n ≤ length text) × Spells (k (take n text)) x (drop n text)
Spells (after {B} g k) x text = (y : B) × (first second : List ℕ) × (text ≡ first ++ second) × Spells g y first × Spells (k y) x second
Spells (within n true g) x text = (length text ≡ n) × (first second : List ℕ) × (text ≡ first ++ second) × Spells g x first
Spells (within n false g) x text = (length text ≡ n) × Spells g x text
Spells (items s step) x text = (n : ℕ) × Chain (λ s b r t. Spells (step s b) r t) n (goes_on s) x text

-- ---- where reading is stuck first

-- behind an octet; where there is none, the octets are no module
abbrev pub StuckBehind : (ℕ → List ℕ → BinaryFault → Type 0) → List ℕ → BinaryFault → Type 0
StuckBehind P [] f = f ≡ NotModule
StuckBehind P (b ∷ text) f = P b text f

-- after at most n items that are spelled, the next is stuck
abbrev pub StuckChain : {S A : Type 0} → (S → ℕ → Next S A → List ℕ → Type 0) → (S → ℕ → List ℕ → BinaryFault → Type 0) → ℕ → Next S A → List ℕ → BinaryFault → Type 0
StuckChain P Q n (ends y) text f = ⊥
StuckChain P Q zero (goes_on s) text f = StuckBehind (Q s) text f
StuckChain {S} {A} P Q (suc n) (goes_on s) text f =
    StuckBehind (λ b rest f. Q s b rest f ⊎ ((r : Next S A) × (first second : List ℕ) × (rest ≡ first ++ second) × P s b r first × StuckChain P Q n r second f)) text f

-- The first construct from the left that no rule allows is this one. A size is judged where its items end: items that cross it
-- meet its end, and are no module then; else the octets must be so many, and all of them taken unless the rest is passed over.
unfoldable pub Stuck : {A : Type 0} → Grammar A → List ℕ → BinaryFault → Type 0
Stuck (is a) text f = ⊥
Stuck (refuse e) text f = f ≡ e
Stuck (octet k) text f = StuckBehind (λ b. Stuck (k b)) text f
Stuck (octets n k) text f = ((length text < n) × (f ≡ NotModule)) ⊎ ((n ≤ length text) × Stuck (k (take n text)) (drop n text) f)
Stuck (after {B} g k) text f =
    Stuck g text f ⊎ ((y : B) × (first second : List ℕ) × (text ≡ first ++ second) × Spells g y first × Stuck (k y) second f)
Stuck {A} (within n passes g) text f =
    Stuck g (take n text) f
    ⊎ ((f ≡ NotModule) × (x : A) × (first second : List ℕ) × (take n text ≡ first ++ second) × Spells g x first × ((length text < n) ⊎ ((passes ≡ false) × (1 ≤ length second))))
Stuck (items s step) text f =
    (n : ℕ) × StuckChain (λ s b r t. Spells (step s b) r t) (λ s b t f. Stuck (step s b) t f) n (goes_on s) text f

-- ---- items to the end of the octets

-- at most n items, each beginning with an octet, lead from a state to another at the end of the octets
abbrev pub SpellsAll : {S : Type 0} → (S → ℕ → Grammar S) → ℕ → S → S → List ℕ → Type 0
SpellsAll step zero s t [] = s ≡ t
SpellsAll step (suc n) s t [] = s ≡ t
SpellsAll step zero s t (b ∷ text) = ⊥
SpellsAll {S} step (suc n) s t (b ∷ text) =
    (mid : S) × (first second : List ℕ) × (text ≡ first ++ second) × Spells (step s b) mid first × SpellsAll step n mid t second

-- after fewer than n items that are spelled, the next is stuck
abbrev pub StuckAmong : {S : Type 0} → (S → ℕ → Grammar S) → ℕ → S → List ℕ → BinaryFault → Type 0
StuckAmong step zero s text f = ⊥
StuckAmong step (suc n) s [] f = ⊥
StuckAmong {S} step (suc n) s (b ∷ text) f =
    Stuck (step s b) text f ⊎ ((mid : S) × (first second : List ℕ) × (text ≡ first ++ second) × Spells (step s b) mid first × StuckAmong step n mid second f)
