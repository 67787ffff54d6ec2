-- The places that have passed where so much of an expression has been read, and what each thing that is read adds to them.
use Rattle.std.proofs.Common.{◌≡◌, ℕ, ◌+◌, ◌-◌, Bool, false, List, [], ◌∷◌, ◌++◌, length, map, take, Result, Ok, Err, refl, ap, ap₂, subst, ◌∙◌, arith, length-append, take_all, drop_at}
use Rattle.std.specs.List.{AllByRecursion}
use Rattle.qw_octet_grammar.specs.declared.fault.BinaryFault.{BinaryFault}
use Rattle.qw_octet_grammar.specs.Grammar.{Next, goes_on, ends}
use Rattle.qw_module.specs.declared.instruction.Instr.{Instr}
use Rattle.qw_module.specs.declared.instruction.Instr.TheVariants as i
use Rattle.qw_module.specs.Syntax.{Code, Sequences, labels_in, nested, named, named_below, code_of, sequence_at, NamesBelow}
use Rattle.qw_module.specs.Places.{Token, block_begins, loop_begins, if_begins, else_begins, branches_by, tokens_before, tokens_of}
use Rattle.qw_module.specs.Places.{ends as end_here}
use Rattle.qw_module.proofs.Numbered.{named_below-any, nested-same}
use Rattle.qw_binary.specs.Instructions.{Opener, block, loop, first, second, Open, Progress, with_instruction, with_table, begun, instruction_of, at_end, at_else}
use Rattle.qw_binary.specs.Inner.Followed.{IsAlone, IsFresh}
use Rattle.qw_binary.proofs.NumberedBodies.{AreLower, IsBelow, IsFineOpen, IsFine, lower_at}
use Rattle.qw_scan.specs.Places.{token_of, opening, may_turn, Passed, then_open, and_then, after_end, after_else}
use Rattle.qw_scan.proofs.Growth.{IsLower, Grows, grows-each, grows-labels, at-seam, named-below, named-stays, code-stays}
use Rattle.qw_scan.proofs.Flat.{tokens-append, flat, flat-behind, flat-alone, opened, opened-fresh, passed_round, round-append}

-- ---- what stays while more is read

module _ (s t : Sequences) (grows : Grows s t) (lower : IsLower s) where
  flat-stays : (xs : List Instr) (more : List Token) → AllByRecursion (NamesBelow (length s.labels) (length s.each)) xs → flat t xs more ≡ flat s xs more
  flat-stays xs more below = ap (λ (c : Code). tokens_before c more) (code-stays s t grows lower xs below)

  opened-stays : (opener : Opener) (more : List Token) → IsBelow (length s.each) opener → opened t opener more ≡ opened s opener more
  opened-stays (second type then_body) more below =
      ap (λ (c : Code). if_begins type ∷ tokens_before c (else_begins ∷ more)) (named-stays s t grows lower then_body below)
  opened-stays _ more below = refl

  round-stays : (around : List Open) (more : List Token) → AllByRecursion (IsFineOpen (length s.labels) (length s.each)) around → passed_round t around more ≡ passed_round s around more
  round-stays [] more fine = refl
  round-stays (outer ∷ around) more fine =
      ap (λ (ts : List Token). passed_round t around (flat t outer.before ts)) (opened-stays outer.opener more fine.0.0)
      ∙ ap (λ (ts : List Token). passed_round t around ts) (flat-stays outer.before (opened s outer.opener more) fine.0.1)
      ∙ round-stays around (flat s outer.before (opened s outer.opener more)) fine.1

-- ---- the state of the places

abbrev pub so_far : Progress → Sequences
so_far p = record { each = p.ended; labels = p.labels }

abbrev pub places_round : Sequences → List Open → List Instr → List Token
places_round s around now = passed_round s around (flat s now [])

abbrev pub turns_of : List Open → List Bool
turns_of around = map (λ (outer : Open). may_turn outer.opener) around

abbrev pub passed : Progress → Passed
passed p = record { places = places_round (so_far p) p.around p.now; turns = turns_of p.around }

lower-from : (each : List (List Instr)) (labels : List ℕ) → AreLower (length labels) 0 each → IsLower (record { each = each; labels = labels })
lower-from each labels are n h =
    let e : 0 + n ≡ n = omega arith in
    subst (λ (k : ℕ). AllByRecursion (NamesBelow (length labels) k) (sequence_at (record { each = each; labels = labels }) n)) e (lower_at (length labels) 0 each are n h)

behind : (s : Sequences) (around : List Open) (xs : List Instr) (ts : List Token) → passed_round s around (flat s xs ts) ≡ places_round s around xs ++ ts
behind s around xs ts =
    ap (λ (us : List Token). passed_round s around us) (tokens-append (nested s.labels (named s) xs) [] ts) ∙ round-append s around (flat s xs []) ts

abbrev with_places : List Bool → List Token → Passed
with_places turns places = record { places = places; turns = turns }

-- ---- an instruction, and what begins a sequence

pub alone-passed : (p : Progress) (x : Instr) → IsAlone x → passed (with_instruction p x) ≡ and_then (passed p) (token_of x)
alone-passed p x alone =
    ap (with_places (turns_of p.around))
    (ap (λ (ts : List Token). passed_round (so_far p) p.around ts)
    (flat-behind (so_far p) p.now (x ∷ []) [] ∙ ap (λ (ts : List Token). flat (so_far p) p.now ts) (flat-alone (so_far p) x [] alone))
    ∙ behind (so_far p) p.around p.now (token_of x ∷ []))

pub begun-passed : (p : Progress) (opener : Opener) → IsFresh opener → passed (begun p opener) ≡ then_open (passed p) (opening opener) (may_turn opener ∷ turns_of p.around)
begun-passed p opener fresh =
    ap (with_places (may_turn opener ∷ turns_of p.around))
    (ap (λ (ts : List Token). passed_round (so_far p) p.around (flat (so_far p) p.now ts)) (opened-fresh (so_far p) opener [] fresh)
    ∙ behind (so_far p) p.around p.now (opening opener ∷ []))

-- ---- a br_table

seam : (labels more : List ℕ) → labels_in (labels ++ more) (length labels) (length more) ≡ more
seam labels more = ap (λ (ls : List ℕ). take (length more) ls) (drop_at labels more (length labels) refl) ∙ take_all (length more) more (omega arith)

pub table-passed : (p : Progress) (labels : List ℕ) (default : ℕ) → IsFine p → passed (with_table p labels default) ≡ and_then (passed p) (branches_by labels default)
table-passed p labels default fine =
    let s : Sequences = so_far p in
    let t : Sequences = record { each = p.ended; labels = p.labels ++ labels } in
    let grows = grows-labels p.ended p.labels labels in
    let lower = lower-from p.ended p.labels fine.ended in
    ap (with_places (turns_of p.around))
    (ap (λ (ts : List Token). passed_round t p.around ts)
    (flat-behind t p.now (i.BrTable (length p.labels) (length labels) default ∷ []) []
    ∙ ap (λ (ls : List ℕ). flat t p.now (branches_by ls default ∷ [])) (seam p.labels labels)
    ∙ flat-stays s t grows lower p.now (branches_by labels default ∷ []) fine.now)
    ∙ round-stays s t grows lower p.around (flat s p.now (branches_by labels default ∷ [])) fine.around
    ∙ behind s p.around p.now (branches_by labels default ∷ []))

-- ---- an end, and an else

module _ (each : List (List Instr)) (labels : List ℕ) (now : List Instr) (are : AreLower (length labels) 0 each) (below : AllByRecursion (NamesBelow (length labels) (length each)) now) where
  abbrev before : Sequences
  before = record { each = each; labels = labels }

  abbrev after : Sequences
  after = record { each = each ++ now ∷ []; labels = labels }

  grown : Grows before after
  grown = grows-each each now labels

  lowers : IsLower before
  lowers = lower-from each labels are

  one-longer : length (each ++ now ∷ []) ≡ length each + 1
  one-longer = omega (arith, length-append each (now ∷ []))

  -- the number of the sequence that ended names it
  ended-code : named after (length each) ≡ nested labels (named before) now
  ended-code =
      named_below-any after (length each) (length (each ++ now ∷ [])) (omega (arith, one-longer))
      ∙ ap (λ (xs : List Instr). nested labels (λ k. named_below after (length each) k) xs) (at-seam each now)
      ∙ nested-same labels (length labels) (length each) (λ k. named_below after (length each) k) (named before)
      (λ k lt. named-below before after grown lowers (length each) (omega arith) k lt) now below

  -- the instruction that holds it
  instruction-flat : (opener : Opener) → IsBelow (length each) opener → flat after (instruction_of opener (length each) ∷ []) [] ≡ opened before opener (flat before now (end_here ∷ []))
  instruction-flat (block type) fine = ap (λ (c : Code). block_begins type ∷ tokens_before c (end_here ∷ [])) ended-code
  instruction-flat (loop type) fine = ap (λ (c : Code). loop_begins type ∷ tokens_before c (end_here ∷ [])) ended-code
  instruction-flat (first type) fine = ap (λ (c : Code). if_begins type ∷ tokens_before c (end_here ∷ [])) ended-code
  instruction-flat (second type then_body) fine =
      ap₂ (λ (c d : Code). if_begins type ∷ tokens_before c (else_begins ∷ tokens_before d (end_here ∷ []))) (named-stays before after grown lowers then_body fine) ended-code

  -- the whole body, where it is the outermost
  body-tokens : tokens_of (code_of after) ≡ flat before now [] ++ end_here ∷ []
  body-tokens =
      let last : length (each ++ now ∷ []) - 1 ≡ length each = omega (arith, one-longer) in
      ap (λ (n : ℕ). tokens_before (named after n) (end_here ∷ [])) last
      ∙ ap (λ (c : Code). tokens_before c (end_here ∷ [])) ended-code
      ∙ tokens-append (nested labels (named before) now) [] (end_here ∷ [])

  -- what stands round it
  outer-places : (outer : Open) (around : List Open) (ts : List Token) → AllByRecursion (IsFineOpen (length labels) (length each)) (outer ∷ around) →
      passed_round after around (flat after outer.before (opened before outer.opener (flat before now ts))) ≡ places_round before (outer ∷ around) now ++ ts
  outer-places outer around ts fine =
      ap (λ (us : List Token). passed_round after around us) (flat-stays before after grown lowers outer.before (opened before outer.opener (flat before now ts)) fine.0.1)
      ∙ round-stays before after grown lowers around (flat before outer.before (opened before outer.opener (flat before now ts))) fine.1
      ∙ behind before (outer ∷ around) now ts

-- what comes next, by its places
abbrev pub view : Next Progress Sequences → Next Passed (List Token)
view (goes_on p) = goes_on (passed p)
view (ends body) = ends (tokens_of (code_of body))

pub end-passed : (each : List (List Instr)) (labels : List ℕ) (around : List Open) (now : List Instr) → IsFine (record { ended = each; labels = labels; around = around; now = now }) →
    view (at_end each labels around now) ≡ after_end (passed (record { ended = each; labels = labels; around = around; now = now })) (turns_of around)
end-passed each labels [] now fine = ap (λ (ts : List Token). ends ts) (body-tokens each labels now fine.ended fine.now)
end-passed each labels (outer ∷ around) now fine =
    let t : Sequences = after each labels now fine.ended fine.now in
    ap (λ (ts : List Token). goes_on (with_places (turns_of around) ts))
    (ap (λ (ts : List Token). passed_round t around ts)
    (flat-behind t outer.before (instruction_of outer.opener (length each) ∷ []) []
    ∙ ap (λ (ts : List Token). flat t outer.before ts) (instruction-flat each labels now fine.ended fine.now outer.opener fine.around.0.0))
    ∙ outer-places each labels now fine.ended fine.now outer around (end_here ∷ []) fine.around)

-- the answer, with what comes next by its places
abbrev pub viewed : Result (Next Progress Sequences) BinaryFault → Result (Next Passed (List Token)) BinaryFault
viewed (Ok next) = Ok (view next)
viewed (Err fault) = Err fault

else-one : (p : Progress) (opener : Opener) (instructions : List Instr) (around : List Open) → IsFine p →
    AllByRecursion (IsFineOpen (length p.labels) (length p.ended)) (record { opener = opener; before = instructions } ∷ around) →
    viewed (at_else p (record { opener = opener; before = instructions } ∷ around))
    ≡ after_else (record { places = places_round (so_far p) (record { opener = opener; before = instructions } ∷ around) p.now; turns = may_turn opener ∷ turns_of around }) (may_turn opener ∷ turns_of around)
else-one p (first type) instructions around fine fines =
    let t : Sequences = after p.ended p.labels p.now fine.ended fine.now in
    ap (λ (ts : List Token). Ok (goes_on (with_places (false ∷ turns_of around) ts)))
    (ap (λ (c : Code). passed_round t around (flat t instructions (if_begins type ∷ tokens_before c (else_begins ∷ [])))) (ended-code p.ended p.labels p.now fine.ended fine.now)
    ∙ outer-places p.ended p.labels p.now fine.ended fine.now (record { opener = first type; before = instructions }) around (else_begins ∷ []) fines)
else-one p _ instructions around fine fines = refl

pub else-passed : (p : Progress) (around : List Open) → IsFine p → AllByRecursion (IsFineOpen (length p.labels) (length p.ended)) around →
    viewed (at_else p around) ≡ after_else (record { places = places_round (so_far p) around p.now; turns = turns_of around }) (turns_of around)
else-passed p [] fine fines = refl
else-passed p (outer ∷ around) fine fines = else-one p outer.opener outer.before around fine fines
