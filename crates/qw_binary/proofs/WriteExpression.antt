-- What is read again of an expression, instruction by instruction.
use Rattle.std.proofs.Common.{◌≡◌, ℕ, ◌+◌, ◌<◌, ◌≤◌, List, [], ◌∷◌, ◌++◌, length, take, drop, map, reverse, slice_get, Option, Some, None, Result, Ok, refl, sym, ap, subst, ◌∙◌, arith, add-one, inl, inr}
use Rattle.std.proofs.lemmas.List.{take_all, length-take-le, map_push, reverse-append, length-drop}
use Rattle.std.proofs.lemmas.Option.{slice_get_within, slice_get_cases, get_or_from_slice_get, unwrap_or-slice_get}
use Rattle.std.proofs.Math.Seq.{take-suc, take-length, take-add}
use Rattle.qw_octet_grammar.specs.declared.fault.BinaryFault.{BinaryFault}
use Rattle.qw_octet_grammar.specs.Grammar.{Next, goes_on, ends, octet, settle}
use Rattle.qw_octet_grammar.specs.Writing.{Puts}
use Rattle.qw_octet_grammar.proofs.WriteLaws.{puts_octet, puts_is}
use Rattle.qw_module.specs.declared.instruction.ValType.{ValType}
use Rattle.qw_module.specs.declared.instruction.Instr.{Instr}
use Rattle.qw_module.specs.declared.instruction.Instr.TheVariants as i
use Rattle.qw_module.specs.Syntax.{Sequences, sequence_at, labels_in}
use Rattle.qw_octet_grammar.specs.Numbers.{u32}
use Rattle.qw_octet_grammar.specs.Vectors.{vector}
use Rattle.qw_binary.specs.Inner.Writer.{PutsInstruction}
use Rattle.qw_binary.proofs.WriteCodes.{puts_table}
use Rattle.qw_binary.specs.Instructions.{Opener, first, second, Open, Progress, instruction, instruction_of, at_end, at_else}

-- one more of a list
pub take_next : {A : Type 0} (xs : List A) (i : ℕ) (x : A) → slice_get xs i ≡ Some x → take (i + 1) xs ≡ take i xs ++ x ∷ []
take_next xs i x e =
    ap (λ n. take n xs) (add-one i) ∙ take-suc xs i x (slice_get_within xs i x e) ∙ ap (λ y. take i xs ++ y ∷ []) (get_or_from_slice_get xs i x x e)

-- the last of a list, which is the first of it the other way round
pub reversed_push : {A B : Type 0} (f : A → B) (xs : List A) (y : A) → reverse (map f (xs ++ y ∷ [])) ≡ f y ∷ reverse (map f xs)
reversed_push f xs y = ap reverse (map_push f xs y) ∙ reverse-append (map f xs) (f y ∷ [])

-- one more of the sequences of a body
pub take_sequence : (body : Sequences) (i : ℕ) → i < length body.each → take (i + 1) body.each ≡ take i body.each ++ sequence_at body i ∷ []
take_sequence body i lt =
    ap (λ n. take n body.each) (add-one i) ∙ take-suc body.each i [] lt ∙ ap (λ y. take i body.each ++ y ∷ []) (sym (unwrap_or-slice_get body.each i []))

puts_end : (p : Progress) (old : List ℕ) → Puts (octet (instruction p)) (at_end p.ended p.labels p.around p.now) old (old ++ 0x0B ∷ [])
puts_end p old = puts_octet (instruction p) 0x0B (at_end p.ended p.labels p.around p.now) old (old ++ 0x0B ∷ []) (puts_is (at_end p.ended p.labels p.around p.now) (old ++ 0x0B ∷ []))

puts_settled : {A : Type 0} (r : Result A BinaryFault) (x : A) (old : List ℕ) → r ≡ Ok x → Puts (settle r) x old old
puts_settled r x old e = rw e (puts_is x old)

puts_else : (p : Progress) (r : Next Progress Sequences) (old : List ℕ) → at_else p p.around ≡ Ok r → Puts (octet (instruction p)) r old (old ++ 0x05 ∷ [])
puts_else p r old e = puts_octet (instruction p) 0x05 r old (old ++ 0x05 ∷ []) (puts_settled (at_else p p.around) r (old ++ 0x05 ∷ []) e)

module _ (body : Sequences) (ended labels place : ℕ) where
  -- where a sequence ends that has the next number
  abbrev pub ending : List Open → Progress
  ending around = record { ended = take ended body.each; labels = take labels body.labels; around = around; now = take place (sequence_at body ended) }

  pub puts_outermost : (old : List ℕ) → ended + 1 ≡ length body.each → labels ≡ length body.labels → length (sequence_at body ended) ≤ place → Puts (octet (instruction (ending []))) (ends body) old (old ++ 0x0B ∷ [])
  puts_outermost old all every le =
      let whole : take place (sequence_at body ended) ≡ sequence_at body ended = take_all place (sequence_at body ended) le in
      let each : take ended body.each ++ sequence_at body ended ∷ [] ≡ body.each = sym (take_sequence body ended (omega (arith, all))) ∙ ap (λ n. take n body.each) all ∙ take-length body.each in
      let names : take labels body.labels ≡ body.labels = ap (λ n. take n body.labels) every ∙ take-length body.labels in
      let value : at_end (take ended body.each) (take labels body.labels) [] (take place (sequence_at body ended)) ≡ ends body = rw (whole, each, names) refl in
      subst (λ r. Puts (octet (instruction (ending []))) r old (old ++ 0x0B ∷ [])) value (puts_end (ending []) old)

  pub puts_inner : (opener : Opener) (sequence at : ℕ) (around : List Open) (old : List ℕ) → ended < length body.each → length (sequence_at body ended) ≤ place → slice_get (sequence_at body sequence) at ≡ Some (instruction_of opener ended)
      → Puts (octet (instruction (ending (record { opener = opener; before = take at (sequence_at body sequence) } ∷ around))))
      (goes_on (record { ended = take (ended + 1) body.each; labels = take labels body.labels; around = around; now = take (at + 1) (sequence_at body sequence) })) old (old ++ 0x0B ∷ [])
  puts_inner opener sequence at around old lt le holds =
      let p = ending (record { opener = opener; before = take at (sequence_at body sequence) } ∷ around) in
      let whole : take place (sequence_at body ended) ≡ sequence_at body ended = take_all place (sequence_at body ended) le in
      let number : length (take ended body.each) ≡ ended = length-take-le ended body.each (omega (arith, lt)) in
      let value : at_end p.ended p.labels p.around p.now ≡ goes_on (record { ended = take (ended + 1) body.each; labels = take labels body.labels; around = around; now = take (at + 1) (sequence_at body sequence) }) = rw (whole, number, take_sequence body ended lt, take_next (sequence_at body sequence) at (instruction_of opener ended) holds) refl in
      subst (λ r. Puts (octet (instruction p)) r old (old ++ 0x0B ∷ [])) value (puts_end p old)

  pub puts_otherwise : (type : Option ValType) (before : List Instr) (around : List Open) (old : List ℕ) → ended < length body.each → length (sequence_at body ended) ≤ place
      → Puts (octet (instruction (ending (record { opener = first type; before = before } ∷ around))))
      (goes_on (record { ended = take (ended + 1) body.each; labels = take labels body.labels; around = record { opener = second type ended; before = before } ∷ around; now = [] })) old (old ++ 0x05 ∷ [])
  puts_otherwise type before around old lt le =
      let p = ending (record { opener = first type; before = before } ∷ around) in
      let whole : take place (sequence_at body ended) ≡ sequence_at body ended = take_all place (sequence_at body ended) le in
      let number : length (take ended body.each) ≡ ended = length-take-le ended body.each (omega (arith, lt)) in
      puts_else p (goes_on (record { ended = take (ended + 1) body.each; labels = take labels body.labels; around = record { opener = second type ended; before = before } ∷ around; now = [] })) old
      (rw (whole, number, take_sequence body ended lt) refl)

-- where no instruction stands, a sequence has ended
pub past_end : {A : Type 0} (xs : List A) (place : ℕ) → slice_get xs place ≡ None → length xs ≤ place
past_end xs place e =
    elim (slice_get_cases xs place).1 [
      | inl found ↦ absurd cc
      | inr past ↦ past.0
    ]

-- the instruction at the present place
pub puts_here : (body : Sequences) (ended labels sequence place : ℕ) (around : List Open) (i : Instr) (old new : List ℕ) → slice_get (sequence_at body sequence) place ≡ Some i → PutsInstruction i old new
    → Puts (octet (instruction (record { ended = take ended body.each; labels = take labels body.labels; around = around; now = take place (sequence_at body sequence) })))
    (goes_on (record { ended = take ended body.each; labels = take labels body.labels; around = around; now = take (place + 1) (sequence_at body sequence) })) old new
unfolding PutsInstruction
puts_here body ended labels sequence place around i old new at put = rw (take_next (sequence_at body sequence) place i at) (put (record { ended = take ended body.each; labels = take labels body.labels; around = around; now = take place (sequence_at body sequence) }))

-- the br_table at the present place
pub puts_table_here : (body : Sequences) (ended from count sequence place default : ℕ) (around : List Open) (named old pushed mid new : List ℕ) → slice_get (sequence_at body sequence) place ≡ Some (i.BrTable from count default)
    → (named ≡ labels_in body.labels from count) × (from + count ≤ length body.labels) → pushed ≡ old ++ 0x0E ∷ [] → Puts (vector u32) named pushed mid → Puts u32 default mid new
    → Puts (octet (instruction (record { ended = take ended body.each; labels = take from body.labels; around = around; now = take place (sequence_at body sequence) })))
    (goes_on (record { ended = take ended body.each; labels = take (from + count) body.labels; around = around; now = take (place + 1) (sequence_at body sequence) })) old new
puts_table_here body ended from count sequence place default around named old pushed mid new at found push f s =
    let p : Progress = record { ended = take ended body.each; labels = take from body.labels; around = around; now = take place (sequence_at body sequence) } in
    let before : length (take from body.labels) ≡ from = length-take-le from body.labels (omega (arith, found.1)) in
    let many : length named ≡ count = ap length found.0 ∙ length-take-le count (drop from body.labels) (omega (arith, found.1, length-drop from body.labels)) in
    let now : take (place + 1) (sequence_at body sequence) ≡ take place (sequence_at body sequence) ++ i.BrTable (length (take from body.labels)) (length named) default ∷ [] = rw (before, many) (take_next (sequence_at body sequence) place (i.BrTable from count default) at) in
    let all : take (from + count) body.labels ≡ take from body.labels ++ named = take-add from count body.labels ∙ ap (λ w. take from body.labels ++ w) (sym found.0) in
    rw (now, all) (puts_table p named default old mid new (subst (λ w. Puts (vector u32) named w mid) push f) s)
