-- What octets spell of an expression is no longer than they are.
use Rattle.std.proofs.Common.{◌≡◌, ℕ, zero, suc, ◌+◌, ◌≤◌, List, [], ◌∷◌, ◌++◌, length, Result, Ok, Err, ap, subst, ◌∙◌, arith, length-append}
use Rattle.std.specs.Prelude.{◌==◌}
use Rattle.std.specs.List.{AllByRecursion}
use Rattle.qw_octet_grammar.specs.declared.fault.BinaryFault.{BinaryFault}
use Rattle.qw_octet_grammar.specs.Grammar.{Next, goes_on, ends, Grammar, is, octet, after, Chain, Spells}
use Rattle.qw_octet_grammar.specs.Numbers.{leb, u32}
use Rattle.qw_octet_grammar.specs.Vectors.{counted, one_more, vector}
use Rattle.qw_module.specs.declared.instruction.Instr.{Instr}
use Rattle.qw_module.specs.declared.instruction.Instr.TheVariants as i
use Rattle.qw_module.specs.Syntax.{Sequences}
use Rattle.qw_binary.specs.Types.{block_type}
use Rattle.qw_binary.specs.Instructions.{simple, Opener, Open, Progress, at_first, with_instruction, with_table, begun, instruction_of, at_end, else_of, with_else, at_else, opener_by, instruction, expression}
use Rattle.qw_binary.proofs.Apart.{ok_is, by_pick, by_given, it_is, settled, joined}

-- ---- grammars that take an octet at least

abbrev pub TakesOne : {A : Type 0} → Grammar A → Type 0
TakesOne {A} g = (x : A) (text : List ℕ) → Spells g x text → 1 ≤ length text

pub octet_takes : {A : Type 0} (k : ℕ → Grammar A) → TakesOne (octet k)
unfolding Spells
octet_takes k x [] s = absurd s
octet_takes k x (b ∷ text) s = omega arith

pub by_parts : {A B : Type 0} (P : Type 0) (g : Grammar B) (k : B → Grammar A) (x : A) (text : List ℕ) → ((y : B) (front rest : List ℕ) → text ≡ front ++ rest → Spells g y front → Spells (k y) x rest → P) → Spells (after g k) x text → P
unfolding Spells
by_parts P g k x text f (y, front, rest, e, s, t) = f y front rest e s t

pub lengths : (text front rest : List ℕ) → text ≡ front ++ rest → length text ≡ length front + length rest
lengths text front rest e = ap (λ (bs : List ℕ). length bs) e ∙ length-append front rest

pub after_takes : {A B : Type 0} (g : Grammar B) (k : B → Grammar A) → TakesOne g → TakesOne (after g k)
after_takes g k one x text = by_parts (1 ≤ length text) g k x text (λ y front rest e s t. omega (arith, one y front s, lengths text front rest e))

pub u32_takes : TakesOne u32
unfolding leb
u32_takes = octet_takes _

-- ---- numbers, one after another

module _ {A : Type 0} (item : List A → Grammar A) (one : (before : List A) → TakesOne (item before)) where
  pub counted_within : (n : ℕ) (before found : List A) (text : List ℕ) → Spells (counted n (λ before. one_more (item before) before) before) found text → length found ≤ length before + length text
  unfolding counted
  counted_within zero before found text s = omega (arith, ap (λ (xs : List A). length xs) (it_is before found text s))
  counted_within (suc n) before found text s =
      by_parts (length found ≤ length before + length text) (one_more (item before) before) (counted n (λ before. one_more (item before) before)) found text
      (λ mid front rest e t u. by_parts (length found ≤ length before + length text) (item before) (λ x. is (before ++ x ∷ [])) mid front
      (λ x here none d v w.
      omega (arith, counted_within n mid found rest u, one before x here v, lengths front here none d, lengths text front rest e, ap (λ (xs : List A). length xs) (it_is (before ++ x ∷ []) mid none w), length-append before (x ∷ []))) t) s

pub vector_within : {A : Type 0} (g : Grammar A) → TakesOne g → (xs : List A) (text : List ℕ) → Spells (vector g) xs text → length xs ≤ length text
vector_within g one xs text =
    by_parts (length xs ≤ length text) u32 _ xs text (λ n front rest e s t. omega (arith, counted_within (λ before. g) (λ before. one) n [] xs rest t, lengths text front rest e))

-- ---- what has been read of an expression

abbrev pub UpTo : {A : Type 0} → ℕ → List A → Type 0
UpTo n xs = length xs ≤ n

pub record Within (n : ℕ) (p : Progress) : Type 0 where
  pub ended : UpTo n p.ended
  pub each : AllByRecursion (λ (s : List Instr). UpTo n s) p.ended
  pub labels : UpTo n p.labels
  pub around : AllByRecursion (λ (o : Open). UpTo n o.before) p.around
  pub now : UpTo n p.now

pub record BodyWithin (n : ℕ) (s : Sequences) : Type 0 where
  pub sequences : UpTo n s.each
  pub each : AllByRecursion (λ (s : List Instr). UpTo n s) s.each
  pub labels : UpTo n s.labels

abbrev NextWithin : ℕ → Next Progress Sequences → Type 0
NextWithin n (goes_on p) = Within n p
NextWithin n (ends s) = BodyWithin n s

all_wider : {X Y : Type 0} (f : X → List Y) (m n : ℕ) → m ≤ n → (xs : List X) → AllByRecursion (λ (x : X). UpTo m (f x)) xs → AllByRecursion (λ (x : X). UpTo n (f x)) xs
all_wider f m n le [] h = tt
all_wider f m n le (x ∷ xs) h = (omega (arith, le, h.0), all_wider f m n le xs h.1)

wider : {A : Type 0} (m n : ℕ) (xs : List A) → m ≤ n → UpTo m xs → UpTo n xs
wider m n xs le h = omega (arith, le, h)

one_longer : {A : Type 0} (m n : ℕ) (xs : List A) (x : A) → m + 1 ≤ n → UpTo m xs → UpTo n (xs ++ x ∷ [])
one_longer m n xs x le h = omega (arith, le, h, length-append xs (x ∷ []))

body_wider : (m n : ℕ) (s : Sequences) → m ≤ n → BodyWithin m s → BodyWithin n s
body_wider m n s le h = record {
  sequences = wider m n s.each le h.sequences;
  each = all_wider (λ (s : List Instr). s) m n le s.each h.each;
  labels = wider m n s.labels le h.labels;
}

module _ (m n : ℕ) (le : m + 1 ≤ n) where
  less : m ≤ n
  less = omega (arith, le)

  sequences_wider : (ss : List (List Instr)) → AllByRecursion (λ (s : List Instr). UpTo m s) ss → AllByRecursion (λ (s : List Instr). UpTo n s) ss
  sequences_wider ss h = all_wider (λ (s : List Instr). s) m n less ss h

  opens_wider : (os : List Open) → AllByRecursion (λ (o : Open). UpTo m o.before) os → AllByRecursion (λ (o : Open). UpTo n o.before) os
  opens_wider os h = all_wider (λ (o : Open). o.before) m n less os h

  -- one more sequence has ended
  one_ended : (ended : List (List Instr)) (now : List Instr) → AllByRecursion (λ (s : List Instr). UpTo m s) ended → UpTo m now → AllByRecursion (λ (s : List Instr). UpTo n s) (ended ++ now ∷ [])
  one_ended ended now each last = joined (λ (s : List Instr). UpTo n s) ended (now ∷ []) (sequences_wider ended each) (wider m n now less last, tt)

  within_instruction : (p : Progress) (x : Instr) → Within m p → Within n (with_instruction p x)
  within_instruction p x h = record {
    ended = wider m n p.ended less h.ended;
    each = sequences_wider p.ended h.each;
    labels = wider m n p.labels less h.labels;
    around = opens_wider p.around h.around;
    now = one_longer m n p.now x le h.now;
  }

  within_begun : (p : Progress) (opener : Opener) → Within m p → Within n (begun p opener)
  within_begun p opener h = record {
    ended = wider m n p.ended less h.ended;
    each = sequences_wider p.ended h.each;
    labels = wider m n p.labels less h.labels;
    around = (wider m n p.now less h.now, opens_wider p.around h.around);
    now = omega arith;
  }

  within_table : (p : Progress) (labels : List ℕ) (default : ℕ) → m + length labels ≤ n → Within m p → Within n (with_table p labels default)
  within_table p labels default more h = record {
    ended = wider m n p.ended less h.ended;
    each = sequences_wider p.ended h.each;
    labels = omega (arith, more, h.labels, length-append p.labels labels);
    around = opens_wider p.around h.around;
    now = one_longer m n p.now (i.BrTable (length p.labels) (length labels) default) le h.now;
  }

  within_end : (ended : List (List Instr)) (labels : List ℕ) (around : List Open) (now : List Instr) → UpTo m ended → AllByRecursion (λ (s : List Instr). UpTo m s) ended → UpTo m labels →
      AllByRecursion (λ (o : Open). UpTo m o.before) around → UpTo m now → NextWithin n (at_end ended labels around now)
  within_end ended labels [] now few each named opens last =
      record { sequences = one_longer m n ended now le few; each = one_ended ended now each last; labels = wider m n labels less named }
  within_end ended labels (outer ∷ around) now few each named opens last = record {
    ended = one_longer m n ended now le few;
    each = one_ended ended now each last;
    labels = wider m n labels less named;
    around = opens_wider around opens.1;
    now = one_longer m n outer.before (instruction_of outer.opener (length ended)) le opens.0;
  }

  within_else : (p : Progress) (around : List Open) (next : Next Progress Sequences) → Within m p → AllByRecursion (λ (o : Open). UpTo m o.before) around → at_else p around ≡ Ok next → NextWithin n next
  within_else p [] next h opens e = absurd cc
  within_else p (outer ∷ around) next h opens e = by_opener (else_of outer.opener (length p.ended)) e
    where
      by_opener : (r : Result Opener BinaryFault) → with_else r p outer.before around ≡ Ok next → NextWithin n next
      by_opener (Err fault) e = absurd cc
      by_opener (Ok opener) e =
          subst (NextWithin n) (ok_is (goes_on (record p { ended = p.ended ++ p.now ∷ []; around = record { opener = opener; before = outer.before } ∷ around; now = [] })) next e)
          (record {
            ended = one_longer m n p.ended p.now le h.ended;
            each = one_ended p.ended p.now h.each h.now;
            labels = wider m n p.labels less h.labels;
            around = (wider m n outer.before less opens.0, opens_wider around opens.1);
            now = omega arith;
          })

-- one instruction more, of so many octets behind its code
within_next : (m : ℕ) (p : Progress) (code : ℕ) (next : Next Progress Sequences) (text : List ℕ) → Within m p → Spells (instruction p code) next text → NextWithin (m + 1 + length text) next
within_next m p code next text h =
    let n = m + 1 + length text in
    let le : m + 1 ≤ n = omega arith in
    by_pick (NextWithin n next) (code == 0x0B) _ _ next text
    (λ s. subst (NextWithin n) (it_is (at_end p.ended p.labels p.around p.now) next text s) (within_end m n le p.ended p.labels p.around p.now h.ended h.each h.labels h.around h.now))
    (by_pick (NextWithin n next) (code == 0x05) _ _ next text (λ s. within_else m n le p p.around next h h.around (settled (at_else p p.around) next text s))
    (by_given (NextWithin n next) (opener_by code) _ _ next text
    (λ make e. by_parts (NextWithin n next) block_type _ next text (λ type front rest d s t. subst (NextWithin n) (it_is (goes_on (begun p (make type))) next rest t) (within_begun m n le p (make type) h)))
    (by_pick (NextWithin n next) (code == 0x0E) _ _ next text
    (by_parts (NextWithin n next) (vector u32) _ next text (λ labels front rest d s. by_parts (NextWithin n next) u32 _ next rest
    (λ default here behind b r t. subst (NextWithin n) (it_is (goes_on (with_table p labels default)) next behind t)
    (within_table m n le p labels default (omega (arith, vector_within u32 u32_takes labels front s, lengths text front rest d)) h))))
    (by_parts (NextWithin n next) (simple code) _ next text (λ x front rest d s t. subst (NextWithin n) (it_is (goes_on (with_instruction p x)) next rest t) (within_instruction m n le p x h))))))

within_chain : (n m : ℕ) (r : Next Progress Sequences) (x : Sequences) (text : List ℕ) → NextWithin m r → Chain (λ p b next t. Spells (instruction p b) next t) n r x text → BodyWithin (m + length text) x
within_chain zero m (ends y) x text h c = body_wider m (m + length text) x (omega arith) (subst (BodyWithin m) c.0 h)
within_chain (suc n) m (ends y) x text h c = body_wider m (m + length text) x (omega arith) (subst (BodyWithin m) c.0 h)
within_chain zero m (goes_on p) x text h c = absurd c
within_chain (suc n) m (goes_on p) x [] h c = absurd c
within_chain (suc n) m (goes_on p) x (b ∷ text) h c =
    let (r, front, rest, e, s, d) = c in
    body_wider ((m + 1 + length front) + length rest) (m + length (b ∷ text)) x (omega (arith, lengths text front rest e)) (within_chain n (m + 1 + length front) r x rest (within_next m p b r front h s) d)

-- a body's sequences, their instructions and its labels are no more than its octets
pub expression_within : (x : Sequences) (text : List ℕ) → Spells expression x text → BodyWithin (length text) x
unfolding Spells
expression_within x text s =
    body_wider (0 + length text) (length text) x (omega arith)
    (within_chain s.0 0 (goes_on at_first) x text (record { ended = omega arith; each = tt; labels = omega arith; around = tt; now = omega arith }) s.1)
