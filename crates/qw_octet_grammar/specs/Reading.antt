-- Reading by a grammar: the value that the front of the octets stands for with what follows, or the first construct that no rule
-- allows. That it is what `Spells` and `Stuck` say is proved of every grammar (`proofs/GrammarLaws`).
use Rattle.std.specs.Prelude.{◌≡◌, ℕ, zero, suc, Bool, true, false, if◌then◌else◌, nat_lt, List, [], ◌∷◌, length, take, drop, Result, Ok, Err}
use Rattle.qw_octet_grammar.specs.declared.fault.BinaryFault.{BinaryFault}
use Rattle.qw_octet_grammar.specs.declared.fault.BinaryFault.TheVariants.{NoMemory, NotModule, OutOfProfile}
use Rattle.qw_octet_grammar.specs.Grammar.{Next, goes_on, ends, Grammar, is, refuse, octet, octets, after, within, items}

infixl 10 ◌>>=◌
-- one step after the other, where the first doesn't fail
abbrev pub ◌>>=◌ : {A B : Type 0} → Result A BinaryFault → (A → Result B BinaryFault) → Result B BinaryFault
(Ok x) >>= f = f x
(Err e) >>= f = Err e

-- by the next octet
abbrev pub behind : {A : Type 0} → (ℕ → List ℕ → Result A BinaryFault) → List ℕ → Result A BinaryFault
behind p [] = Err NotModule
behind p (b ∷ bytes) = p b bytes

-- what follows so many octets, of which these were left: they are all there, and none is left unless the rest is passed over
abbrev pub filled : {A : Type 0} → ℕ → Bool → List ℕ → (A × List ℕ) → Result (A × List ℕ) BinaryFault
filled n true bytes y = if nat_lt (length bytes) n then Err NotModule else Ok (y.0, drop n bytes)
filled n false bytes y = if nat_lt (length bytes) n then Err NotModule else if nat_lt 0 (length y.1) then Err NotModule else Ok (y.0, drop n bytes)

-- at most n items, until one is the last
abbrev pub chain : {S A : Type 0} → (S → ℕ → List ℕ → Result (Next S A × List ℕ) BinaryFault) → ℕ → Next S A → List ℕ → Result (A × List ℕ) BinaryFault
chain p n (ends y) bytes = Ok (y, bytes)
chain p zero (goes_on s) bytes = Err NotModule
chain p (suc n) (goes_on s) bytes = behind (λ b rest. p s b rest >>= λ y. chain p n y.0 y.1) bytes

-- an item takes an octet at least, so there are no more of them than octets
unfoldable pub read : {A : Type 0} → Grammar A → List ℕ → Result (A × List ℕ) BinaryFault
read (is a) bytes = Ok (a, bytes)
read (refuse f) bytes = Err f
read (octet k) bytes = behind (λ b. read (k b)) bytes
read (octets n k) bytes = if nat_lt (length bytes) n then Err NotModule else read (k (take n bytes)) (drop n bytes)
read (after g k) bytes = read g bytes >>= λ y. read (k y.0) y.1
read (within n passes g) bytes = read g (take n bytes) >>= filled n passes bytes
read (items s step) bytes = chain (λ s b. read (step s b)) (suc (length bytes)) (goes_on s) bytes

-- at most n items to the end of the octets
abbrev pub read_all : {S : Type 0} → (S → ℕ → Grammar S) → ℕ → S → List ℕ → Result S BinaryFault
read_all step zero s [] = Ok s
read_all step (suc n) s [] = Ok s
read_all step zero s (b ∷ bytes) = Err NotModule
read_all step (suc n) s (b ∷ bytes) = read (step s b) bytes >>= λ y. read_all step n y.0 y.1

-- this fault is what reading gives, unless memory ran out
abbrev pub Fails : {Y : Type 0} → BinaryFault → Result Y BinaryFault → Type 0
Fails NoMemory found = Unit {0}
Fails NotModule found = found ≡ Err NotModule
Fails (OutOfProfile what) found = found ≡ Err (OutOfProfile what)

-- what was returned, without where it lies in memory, is what reading gives, unless memory ran out
abbrev pub Gives : {X Y : Type 0} → (X → Y) → Result X BinaryFault → Result Y BinaryFault → Type 0
Gives view (Ok x) found = found ≡ Ok (view x)
Gives view (Err e) found = Fails e found
