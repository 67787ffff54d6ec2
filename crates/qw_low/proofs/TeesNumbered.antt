-- Where sequences are numbered in the order in which they are read, they are so with each set and get of one local fused.
use Rattle.std.proofs.Common.{◌≡◌, ℕ, ◌==◌, if◌then◌else◌, Bool, true, false, List, [], ◌∷◌, ◌++◌, length, map, Some, None, refl, sym, ap, ap₂, ◌∙◌}
use Rattle.std.proofs.lemmas.List.{append_assoc, length-map, map-append}
use Rattle.qw_module.specs.declared.instruction.Instr.{Instr}
use Rattle.qw_module.specs.declared.instruction.Instr.TheVariants as i
use Rattle.qw_module.specs.declared.instruction.Op.TheVariants as o
use Rattle.qw_module.specs.Syntax.{Code, Sequences, done, op, unreachable, block, loop, if_then, if_else, br, br_if, br_table, return, call, code_of}
use Rattle.qw_module.specs.Numbering.{IsInOrder, Numbering, at_other, at_start, numbered, numbering, sequences_in}
use Rattle.qw_low.specs.Translation.{setting}
use Rattle.qw_low.specs.Inner.Tees.{before, fused, fused_code, set_before}
use Rattle.qw_low.specs.Inner.Writing.{unlabelled}
use Rattle.qw_low.proofs.Tees.{code_of-fused}

abbrev at : List (List Instr) → List ℕ → List Instr → Numbering
at ended labels now = record { ended = ended; labels = labels; now = now }

-- ---- the present sequence is only added to
abbrev after : List Instr → Numbering → Numbering
after front n = at n.ended n.labels (front ++ n.now)

further : (rest : Code) (front : List Instr) → ((n : Numbering) → numbering rest (after front n) ≡ after front (numbering rest n)) →
    (ended : List (List Instr)) (labels : List ℕ) (now : List Instr) (x : Instr) →
    numbering rest (at ended labels ((front ++ now) ++ x ∷ [])) ≡ after front (numbering rest (at ended labels (now ++ x ∷ [])))
further rest front more ended labels now x =
    ap (λ (s : List Instr). numbering rest (at ended labels s)) (append_assoc front now (x ∷ [])) ∙ more (at ended labels (now ++ x ∷ []))

numbering-after : (k : Code) (front : List Instr) (n : Numbering) → numbering k (after front n) ≡ after front (numbering k n)
numbering-after done front n = refl
numbering-after (op operator rest) front n = further rest front (numbering-after rest front) _ _ n.now _
numbering-after (unreachable rest) front n = further rest front (numbering-after rest front) _ _ n.now _
numbering-after (block result inner rest) front n = further rest front (numbering-after rest front) _ _ n.now _
numbering-after (loop result inner rest) front n = further rest front (numbering-after rest front) _ _ n.now _
numbering-after (if_then result inner rest) front n = further rest front (numbering-after rest front) _ _ n.now _
numbering-after (if_else result inner other rest) front n = further rest front (numbering-after rest front) _ _ n.now _
numbering-after (br label rest) front n = further rest front (numbering-after rest front) _ _ n.now _
numbering-after (br_if label rest) front n = further rest front (numbering-after rest front) _ _ n.now _
numbering-after (br_table labels default rest) front n = further rest front (numbering-after rest front) _ _ n.now _
numbering-after (return rest) front n = further rest front (numbering-after rest front) _ _ n.now _
numbering-after (call index rest) front n = further rest front (numbering-after rest front) _ _ n.now _

-- ---- a `local.set` before a code
abbrev set_first : ℕ → Numbering → Numbering
set_first x n = at n.ended n.labels (set_before x n.now)

set-alone : (x : ℕ) (rest : Code) (ended : List (List Instr)) (labels : List ℕ) (first : Instr) → ((s : List Instr) → set_before x (first ∷ s) ≡ i.Op (o.LocalSet x) ∷ first ∷ s) →
    numbering rest (at ended labels (i.Op (o.LocalSet x) ∷ first ∷ [])) ≡ set_first x (numbering rest (at ended labels (first ∷ [])))
set-alone x rest ended labels first alone =
    let n : Numbering = numbering rest (at ended labels []) in
    numbering-after rest (i.Op (o.LocalSet x) ∷ first ∷ []) (at ended labels [])
    ∙ ap (at n.ended n.labels) (sym (alone n.now))
    ∙ ap (set_first x) (sym (numbering-after rest (first ∷ []) (at ended labels [])))

numbering-set : (x : ℕ) (k : Code) (ended : List (List Instr)) (labels : List ℕ) → numbering (setting x k) (at ended labels []) ≡ set_first x (numbering k (at ended labels []))
numbering-set x done ended labels = refl
numbering-set x (op (o.LocalGet y) rest) ended labels =
    one (x == y) ∙ ap (set_first x) (sym (numbering-after rest (i.Op (o.LocalGet y) ∷ []) (at ended labels [])))
  where
    one : (is : Bool) → numbering (if is then op (o.LocalTee x) rest else op (o.LocalSet x) (op (o.LocalGet y) rest)) (at ended labels [])
        ≡ at (numbering rest (at ended labels [])).ended (numbering rest (at ended labels [])).labels
        (if is then i.Op (o.LocalTee x) ∷ (numbering rest (at ended labels [])).now else i.Op (o.LocalSet x) ∷ i.Op (o.LocalGet y) ∷ (numbering rest (at ended labels [])).now)
    one true = numbering-after rest (i.Op (o.LocalTee x) ∷ []) (at ended labels [])
    one false = numbering-after rest (i.Op (o.LocalSet x) ∷ i.Op (o.LocalGet y) ∷ []) (at ended labels [])
numbering-set x (op operator rest) ended labels = set-alone x rest _ _ (i.Op operator) (λ s. refl)
numbering-set x (unreachable rest) ended labels = set-alone x rest _ _ i.Unreachable (λ s. refl)
numbering-set x (block result inner rest) ended labels = set-alone x rest _ _ (i.Block result _) (λ s. refl)
numbering-set x (loop result inner rest) ended labels = set-alone x rest _ _ (i.Loop result _) (λ s. refl)
numbering-set x (if_then result inner rest) ended labels = set-alone x rest _ _ (i.If result _ None) (λ s. refl)
numbering-set x (if_else result inner other rest) ended labels = set-alone x rest _ _ (i.If result _ (Some _)) (λ s. refl)
numbering-set x (br label rest) ended labels = set-alone x rest _ _ (i.Br label) (λ s. refl)
numbering-set x (br_if label rest) ended labels = set-alone x rest _ _ (i.BrIf label) (λ s. refl)
numbering-set x (br_table some default rest) ended labels = set-alone x rest _ _ (i.BrTable _ _ default) (λ s. refl)
numbering-set x (return rest) ended labels = set-alone x rest _ _ i.Return (λ s. refl)
numbering-set x (call index rest) ended labels = set-alone x rest _ _ (i.Call index) (λ s. refl)

-- ---- fused code numbers the fused sequences
abbrev fused_in : Numbering → Numbering
fused_in n = at (map fused n.ended) n.labels (fused n.now)

abbrev IsFused : Code → Type 0
IsFused k = (ended : List (List Instr)) (labels : List ℕ) → numbering (fused_code k) (at (map fused ended) labels []) ≡ fused_in (numbering k (at ended labels []))

fused-first : (first : Instr) → ((s : List Instr) → before first s ≡ first ∷ s) → (rest : Code) → IsFused rest → (ended : List (List Instr)) (labels : List ℕ) →
    numbering (fused_code rest) (at (map fused ended) labels (first ∷ [])) ≡ fused_in (numbering rest (at ended labels (first ∷ [])))
fused-first first alone rest is ended labels =
    let n : Numbering = numbering rest (at ended labels []) in
    numbering-after (fused_code rest) (first ∷ []) (at (map fused ended) labels [])
    ∙ ap (after (first ∷ [])) (is ended labels)
    ∙ ap (at (map fused n.ended) n.labels) (sym (alone (fused n.now)))
    ∙ ap fused_in (sym (numbering-after rest (first ∷ []) (at ended labels [])))

-- the sequences that have ended with the present one
ended-fused : (n : Numbering) → map fused n.ended ++ fused n.now ∷ [] ≡ map fused (n.ended ++ n.now ∷ [])
ended-fused n = sym (map-append fused n.ended (n.now ∷ []))

-- an inner sequence has ended
fused-inner : (make : ℕ → Instr) → ((number : ℕ) (s : List Instr) → before (make number) s ≡ make number ∷ s) → (rest : Code) → IsFused rest →
    (m n : Numbering) → m ≡ fused_in n →
    numbering (fused_code rest) (at (m.ended ++ m.now ∷ []) m.labels (make (length m.ended) ∷ []))
    ≡ fused_in (numbering rest (at (n.ended ++ n.now ∷ []) n.labels (make (length n.ended) ∷ [])))
fused-inner make alone rest is m n same =
    ap (λ (a : Numbering). numbering (fused_code rest) (at (a.ended ++ a.now ∷ []) a.labels (make (length a.ended) ∷ []))) same
    ∙ ap₂ (λ (ended : List (List Instr)) (number : ℕ). numbering (fused_code rest) (at ended n.labels (make number ∷ []))) (ended-fused n) (length-map n.ended fused)
    ∙ fused-first (make (length n.ended)) (alone (length n.ended)) rest is (n.ended ++ n.now ∷ []) n.labels

numbering-fused : (k : Code) → IsFused k
numbering-fused done ended labels = refl
numbering-fused (op (o.LocalSet x) rest) ended labels =
    numbering-set x (fused_code rest) (map fused ended) labels
    ∙ ap (set_first x) (numbering-fused rest ended labels)
    ∙ ap fused_in (sym (numbering-after rest (i.Op (o.LocalSet x) ∷ []) (at ended labels [])))
numbering-fused (op operator rest) ended labels = fused-first (i.Op operator) (λ s. refl) rest (numbering-fused rest) ended labels
numbering-fused (unreachable rest) ended labels = fused-first i.Unreachable (λ s. refl) rest (numbering-fused rest) ended labels
numbering-fused (block result inner rest) ended labels = fused-inner (i.Block result) (λ number s. refl) rest (numbering-fused rest) _ _ (numbering-fused inner ended labels)
numbering-fused (loop result inner rest) ended labels = fused-inner (i.Loop result) (λ number s. refl) rest (numbering-fused rest) _ _ (numbering-fused inner ended labels)
numbering-fused (if_then result inner rest) ended labels = fused-inner (λ number. i.If result number None) (λ number s. refl) rest (numbering-fused rest) _ _ (numbering-fused inner ended labels)
numbering-fused (if_else result inner other rest) ended labels =
    let m : Numbering = numbering inner (at ended labels []) in
    let n : Numbering = numbering other (at_other m) in
    ap (λ (a : Numbering). let b : Numbering = numbering (fused_code other) (at_other a) in
    numbering (fused_code rest) (at (b.ended ++ b.now ∷ []) b.labels (i.If result (length a.ended) (Some (length b.ended)) ∷ []))) (numbering-fused inner ended labels)
    ∙ ap (λ (number : ℕ). let b : Numbering = numbering (fused_code other) (at_other (fused_in m)) in
    numbering (fused_code rest) (at (b.ended ++ b.now ∷ []) b.labels (i.If result number (Some (length b.ended)) ∷ []))) (length-map m.ended fused)
    ∙ fused-inner (λ number. i.If result (length m.ended) (Some number)) (λ number s. refl) rest (numbering-fused rest) _ n
    (ap (λ (before : List (List Instr)). numbering (fused_code other) (at before m.labels [])) (ended-fused m) ∙ numbering-fused other (m.ended ++ m.now ∷ []) m.labels)
numbering-fused (br label rest) ended labels = fused-first (i.Br label) (λ s. refl) rest (numbering-fused rest) ended labels
numbering-fused (br_if label rest) ended labels = fused-first (i.BrIf label) (λ s. refl) rest (numbering-fused rest) ended labels
numbering-fused (br_table some default rest) ended labels = fused-first (i.BrTable (length labels) (length some) default) (λ s. refl) rest (numbering-fused rest) ended (labels ++ some)
numbering-fused (return rest) ended labels = fused-first i.Return (λ s. refl) rest (numbering-fused rest) ended labels
numbering-fused (call index rest) ended labels = fused-first (i.Call index) (λ s. refl) rest (numbering-fused rest) ended labels

pub order-fused : (bodies : List (List Instr)) → IsInOrder (unlabelled bodies) → IsInOrder (unlabelled (map fused bodies))
order-fused bodies order =
    let n : Numbering = numbering (code_of (unlabelled bodies)) at_start in
    ap (λ (s : Sequences). let t : Sequences = record { each = map fused s.each; labels = s.labels } in t) order
    ∙ ap (λ (each : List (List Instr)). let t : Sequences = record { each = each; labels = n.labels } in t) (sym (ended-fused n))
    ∙ ap sequences_in (sym (numbering-fused (code_of (unlabelled bodies)) [] []))
    ∙ ap numbered (sym (code_of-fused bodies))
