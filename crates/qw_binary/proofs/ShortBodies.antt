-- Short spellings of bodies.
use Rattle.std.proofs.Common.{◌≡◌, ℕ, suc, ◌+◌, ◌*◌, ◌≤◌, ◌==◌, false, List, [], ◌∷◌, ◌++◌, length, Option, Some, None, refl, sym, subst, append_assoc, length-append, arith}
use Rattle.std.specs.Option.{option_map}
use Rattle.std.specs.List.{AllByRecursion, sum_by}
use Rattle.std.proofs.lemmas.List.{append-nil}
use Rattle.std.proofs.lemmas.List.Sums.{sum_by-cons}
use Rattle.qw_octet_grammar.specs.Grammar.{Next, goes_on, ends, is, octet, items, Spells}
use Rattle.qw_octet_grammar.specs.Numbers.{u32}
use Rattle.qw_octet_grammar.specs.Vectors.{vector}
use Rattle.qw_module.specs.declared.instruction.ValType.{ValType}
use Rattle.qw_module.specs.declared.instruction.Instr.TheVariants as i
use Rattle.qw_module.specs.Start.{weight}
use Rattle.qw_module.specs.Syntax.{Code, done, op, unreachable, block, loop, if_then, if_else, br, br_if, br_table, return, call, Sequences}
use Rattle.qw_binary.specs.Types.{block_type}
use Rattle.qw_binary.specs.Instructions.{Opener, block as by_block, loop as by_loop, first, second, Open, Progress, at_first, instruction, begun, with_table, at_end, at_else, opener_by, expression}
use Rattle.qw_module.specs.Numbering.{Numbering, numbering, at_start, at_other, and_then, and_table, inside, held, numbered}
use Rattle.qw_binary.specs.Sizes.{Fits, FitsCode, code_octets}
use Rattle.qw_binary.specs.Inner.Codes.{IsOpening}
use Rattle.qw_binary.specs.Inner.Followed.{Leads}
use Rattle.qw_binary.specs.Inner.Short.{IsShort, Way}
use Rattle.qw_binary.proofs.Short.{short_is, short_octet, short_settled, short_put, put_short, short_u32, short_vector}
use Rattle.qw_binary.proofs.ShortCodes.{op_behind, unreachable_behind, return_behind, br_behind, br_if_behind, call_behind, short_block_type}
use Rattle.qw_binary.proofs.WriteCodes.{puts_opening, puts_table}

-- ---- ways of a reader

here : (p : Next Progress Sequences) → Way p p 0
here p = record { text = []; short = omega arith; leads = λ body count rest c. (count, c) }

-- one instruction, an else or an end
one : (p : Progress) (q : Next Progress Sequences) (most : ℕ) → IsShort (octet (instruction p)) q most → Way (goes_on p) q most
unfolding Spells
one p q most h = from h.text h.spells h.short
  where
    from : (text : List ℕ) → Spells (octet (instruction p)) q text → length text ≤ most → Way (goes_on p) q most
    from [] s le = absurd s
    from (b ∷ text) s le = record { text = b ∷ text; short = le; leads = λ body count rest c. (suc count, (q, text, rest, refl, s, c)) }

then : (p q r : Next Progress Sequences) (m n : ℕ) → Way p q m → Way q r n → Way p r (m + n)
then p q r m n h l =
    record {
      text = h.text ++ l.text;
      short = omega (arith, length-append h.text l.text, h.short, l.short);
      leads = λ body count rest c.
          let second = l.leads body count rest c in
          let both = h.leads body second.0 (l.text ++ rest) second.1 in
          (both.0, subst (λ w. Leads body both.0 p w) (sym (append_assoc h.text l.text rest)) both.1);
    }

within_most : (p q : Next Progress Sequences) (m n : ℕ) → m ≤ n → Way p q m → Way p q n
within_most p q m n le h = record { text = h.text; short = omega (arith, le, h.short); leads = h.leads }

-- ---- where a reader is whose sequences have these numbers

abbrev at_number : Numbering → List Open → Progress
at_number n around = record { ended = n.ended; labels = n.labels; around = around; now = n.now }

abbrev outer_of : Opener → Numbering → Open
outer_of opener n = record { opener = opener; before = n.now }

opens : (n : Numbering) (around : List Open) (code : ℕ) (type : Option ValType) (opener : Opener) → IsOpening code type opener → Way (goes_on (at_number n around)) (goes_on (at_number (inside n) (outer_of opener n ∷ around))) 2
opens n around code type opener h =
    let p : Progress = at_number n around in
    let t = short_block_type type in
    one p (goes_on (begun p opener)) 2
    (short_put (octet (instruction p)) (goes_on (begun p opener)) (code ∷ t.text) 2 (omega (arith, t.short))
    (puts_opening code type opener p [] (code ∷ t.text) h (put_short block_type type 1 (code ∷ []) t)))

ending : (inner : Numbering) (around : List Open) (next : Next Progress Sequences) → at_end inner.ended inner.labels around inner.now ≡ next → Way (goes_on (at_number inner around)) next 1
ending inner around next e =
    one (at_number inner around) next 1
    (short_octet (instruction (at_number inner around)) 0x0B next 0 (subst (λ r. IsShort (is r) next 0) (sym e) (short_is next)))

otherwise : (n inner : Numbering) (around : List Open) (type : Option ValType)
    → Way (goes_on (at_number inner (outer_of (first type) n ∷ around))) (goes_on (at_number (at_other inner) (outer_of (second type (length inner.ended)) n ∷ around))) 1
otherwise n inner around type =
    let p : Progress = at_number inner (outer_of (first type) n ∷ around) in
    let q : Next Progress Sequences = goes_on (at_number (at_other inner) (outer_of (second type (length inner.ended)) n ∷ around)) in
    one p q 1 (short_octet (instruction p) 0x05 q 0 (short_settled (at_else p p.around) q refl))

table_behind : (p : Progress) (labels : List ℕ) (default : ℕ) → AllByRecursion Fits labels → Fits (length labels) → Fits default
    → IsShort (octet (instruction p)) (goes_on (with_table p labels default)) (11 + 5 * length labels)
table_behind p labels default each many fits =
    let all = short_vector u32 (λ _. 5) labels many (fives labels each) in
    let last = short_u32 default fits in
    let mid : List ℕ = 0x0E ∷ all.text in
    short_put (octet (instruction p)) (goes_on (with_table p labels default)) (mid ++ last.text) (11 + 5 * length labels)
    (omega (arith, length-append mid last.text, all.short, last.short, sum_fives labels))
    (puts_table p labels default [] mid (mid ++ last.text) (put_short (vector u32) labels (5 + sum_by (λ _. 5) labels) (0x0E ∷ []) all) (put_short u32 default 5 mid last))
  where
    fives : (labels : List ℕ) → AllByRecursion Fits labels → AllByRecursion (λ n. IsShort u32 n 5) labels
    fives [] h = tt
    fives (n ∷ labels) h = (short_u32 n h.0, fives labels h.1)

    sum_fives : (labels : List ℕ) → sum_by (λ _. 5) labels ≡ 5 * length labels
    sum_fives [] = refl
    sum_fives (n ∷ labels) = omega (arith, sum_by-cons (λ (_ : ℕ). 5) n labels, sum_fives labels)

opening : (code : ℕ) (type : Option ValType) (opener : Opener) → (code == 0x0B) ≡ false → (code == 0x05) ≡ false → option_map (λ make. make type) (opener_by code) ≡ Some opener → IsOpening code type opener
opening code type opener a b c = record { inside = record { no_end = a; no_else = b }; opens = c }

-- ---- the instructions of a code

way : (code : Code) (n : Numbering) (around : List Open) → FitsCode code → Way (goes_on (at_number n around)) (goes_on (at_number (numbering code n) around)) (code_octets code)
way done n around fits = here (goes_on (at_number n around))
way (op o rest) n around fits =
    then _ (goes_on (at_number (and_then n (i.Op o)) around)) _ 11 (code_octets rest)
    (one (at_number n around) _ 11 (op_behind (at_number n around) o fits.0)) (way rest (and_then n (i.Op o)) around fits.1)
way (unreachable rest) n around fits =
    then _ (goes_on (at_number (and_then n i.Unreachable) around)) _ 1 (code_octets rest)
    (one (at_number n around) _ 1 (unreachable_behind (at_number n around))) (way rest (and_then n i.Unreachable) around fits)
way (return rest) n around fits =
    then _ (goes_on (at_number (and_then n i.Return) around)) _ 1 (code_octets rest)
    (one (at_number n around) _ 1 (return_behind (at_number n around))) (way rest (and_then n i.Return) around fits)
way (br label rest) n around fits =
    then _ (goes_on (at_number (and_then n (i.Br label)) around)) _ 6 (code_octets rest)
    (one (at_number n around) _ 6 (br_behind (at_number n around) label fits.0)) (way rest (and_then n (i.Br label)) around fits.1)
way (br_if label rest) n around fits =
    then _ (goes_on (at_number (and_then n (i.BrIf label)) around)) _ 6 (code_octets rest)
    (one (at_number n around) _ 6 (br_if_behind (at_number n around) label fits.0)) (way rest (and_then n (i.BrIf label)) around fits.1)
way (call index rest) n around fits =
    then _ (goes_on (at_number (and_then n (i.Call index)) around)) _ 6 (code_octets rest)
    (one (at_number n around) _ 6 (call_behind (at_number n around) index fits.0)) (way rest (and_then n (i.Call index)) around fits.1)
way (br_table labels default rest) n around fits =
    then _ (goes_on (at_number (and_table n labels default) around)) _ (11 + 5 * length labels) (code_octets rest)
    (one (at_number n around) _ (11 + 5 * length labels) (table_behind (at_number n around) labels default fits.0 fits.1 fits.2)) (way rest (and_table n labels default) around fits.3)
way (block type inner rest) n around fits =
    let outer : List Open = outer_of (by_block type) n ∷ around in
    let ended : Numbering = numbering inner (inside n) in
    let next : Numbering = held n ended (i.Block type (length ended.ended)) in
    let p = goes_on (at_number n around) in
    let entered : Way p (goes_on (at_number (inside n) outer)) 2 = opens n around 0x02 type (by_block type) (opening 0x02 type (by_block type) refl refl refl) in
    let there : Way (goes_on (at_number (inside n) outer)) (goes_on (at_number ended outer)) (code_octets inner) = way inner (inside n) outer fits.0 in
    let closed : Way (goes_on (at_number ended outer)) (goes_on (at_number next around)) 1 = ending ended outer (goes_on (at_number next around)) refl in
    within_most _ _ _ _ (omega arith) (then _ _ _ _ _ (then _ _ _ _ _ (then _ _ _ _ _ entered there) closed) (way rest next around fits.1))
way (loop type inner rest) n around fits =
    let outer : List Open = outer_of (by_loop type) n ∷ around in
    let ended : Numbering = numbering inner (inside n) in
    let next : Numbering = held n ended (i.Loop type (length ended.ended)) in
    let p = goes_on (at_number n around) in
    let entered : Way p (goes_on (at_number (inside n) outer)) 2 = opens n around 0x03 type (by_loop type) (opening 0x03 type (by_loop type) refl refl refl) in
    let there : Way (goes_on (at_number (inside n) outer)) (goes_on (at_number ended outer)) (code_octets inner) = way inner (inside n) outer fits.0 in
    let closed : Way (goes_on (at_number ended outer)) (goes_on (at_number next around)) 1 = ending ended outer (goes_on (at_number next around)) refl in
    within_most _ _ _ _ (omega arith) (then _ _ _ _ _ (then _ _ _ _ _ (then _ _ _ _ _ entered there) closed) (way rest next around fits.1))
way (if_then type inner rest) n around fits =
    let outer : List Open = outer_of (first type) n ∷ around in
    let ended : Numbering = numbering inner (inside n) in
    let next : Numbering = held n ended (i.If type (length ended.ended) None) in
    let p = goes_on (at_number n around) in
    let entered : Way p (goes_on (at_number (inside n) outer)) 2 = opens n around 0x04 type (first type) (opening 0x04 type (first type) refl refl refl) in
    let there : Way (goes_on (at_number (inside n) outer)) (goes_on (at_number ended outer)) (code_octets inner) = way inner (inside n) outer fits.0 in
    let closed : Way (goes_on (at_number ended outer)) (goes_on (at_number next around)) 1 = ending ended outer (goes_on (at_number next around)) refl in
    within_most _ _ _ _ (omega arith) (then _ _ _ _ _ (then _ _ _ _ _ (then _ _ _ _ _ entered there) closed) (way rest next around fits.1))
way (if_else type inner other rest) n around fits =
    let outer : List Open = outer_of (first type) n ∷ around in
    let chosen : Numbering = numbering inner (inside n) in
    let turned : List Open = outer_of (second type (length chosen.ended)) n ∷ around in
    let ended : Numbering = numbering other (at_other chosen) in
    let next : Numbering = held n ended (i.If type (length chosen.ended) (Some (length ended.ended))) in
    let p = goes_on (at_number n around) in
    let entered : Way p (goes_on (at_number (inside n) outer)) 2 = opens n around 0x04 type (first type) (opening 0x04 type (first type) refl refl refl) in
    let there : Way (goes_on (at_number (inside n) outer)) (goes_on (at_number chosen outer)) (code_octets inner) = way inner (inside n) outer fits.0 in
    let turns : Way (goes_on (at_number chosen outer)) (goes_on (at_number (at_other chosen) turned)) 1 = otherwise n chosen around type in
    let here : Way (goes_on (at_number (at_other chosen) turned)) (goes_on (at_number ended turned)) (code_octets other) = way other (at_other chosen) turned fits.1 in
    let closed : Way (goes_on (at_number ended turned)) (goes_on (at_number next around)) 1 = ending ended turned (goes_on (at_number next around)) refl in
    within_most _ _ _ _ (omega arith) (then _ _ _ _ _ (then _ _ _ _ _ (then _ _ _ _ _ (then _ _ _ _ _ (then _ _ _ _ _ entered there) turns) here) closed) (way rest next around fits.2))

-- a body
pub short_body : (code : Code) → FitsCode code → IsShort expression (numbered code) (code_octets code + 1)
unfolding Spells
short_body code fits =
    let last : Numbering = numbering code at_start in
    let w = then _ _ _ _ _ (way code at_start [] fits) (ending last [] (ends (numbered code)) refl) in
    let h = w.leads (numbered code) 0 [] (refl, refl) in
    record { text = w.text; spells = subst (λ t. Spells (items at_first instruction) (numbered code) t) (append-nil w.text) (h.0, h.1); short = w.short }

-- ---- by how many instructions and labels there are

labels_most : (code : Code) (n : Numbering) → code_octets code + 5 * length n.labels ≤ 11 * weight code + 5 * length (numbering code n).labels
labels_most done n = omega arith
labels_most (op o rest) n = omega (arith, labels_most rest (and_then n (i.Op o)))
labels_most (unreachable rest) n = omega (arith, labels_most rest (and_then n i.Unreachable))
labels_most (return rest) n = omega (arith, labels_most rest (and_then n i.Return))
labels_most (br label rest) n = omega (arith, labels_most rest (and_then n (i.Br label)))
labels_most (br_if label rest) n = omega (arith, labels_most rest (and_then n (i.BrIf label)))
labels_most (call index rest) n = omega (arith, labels_most rest (and_then n (i.Call index)))
labels_most (br_table labels default rest) n = omega (arith, labels_most rest (and_table n labels default), length-append n.labels labels)
labels_most (block type inner rest) n =
    let ended : Numbering = numbering inner (inside n) in
    omega (arith, labels_most inner (inside n), labels_most rest (held n ended (i.Block type (length ended.ended))))
labels_most (loop type inner rest) n =
    let ended : Numbering = numbering inner (inside n) in
    omega (arith, labels_most inner (inside n), labels_most rest (held n ended (i.Loop type (length ended.ended))))
labels_most (if_then type inner rest) n =
    let ended : Numbering = numbering inner (inside n) in
    omega (arith, labels_most inner (inside n), labels_most rest (held n ended (i.If type (length ended.ended) None)))
labels_most (if_else type inner other rest) n =
    let chosen : Numbering = numbering inner (inside n) in
    let ended : Numbering = numbering other (at_other chosen) in
    omega (arith, labels_most inner (inside n), labels_most other (at_other chosen), labels_most rest (held n ended (i.If type (length chosen.ended) (Some (length ended.ended)))))

pub octets_by_weight : (code : Code) → code_octets code ≤ 11 * weight code + 5 * length (numbered code).labels
octets_by_weight code = omega (arith, labels_most code at_start)
