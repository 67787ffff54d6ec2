-- How a writer goes on in a body, and where it can't.
use Rattle.std.proofs.Common.{◌≡◌, ◌⊎◌, ℕ, ◌+◌, ◌<◌, ◌≤◌, List, [], ◌∷◌, ◌++◌, length, take, drop, map, reverse, slice_get, Option, Some, None, refl, sym, ap, subst, ◌∙◌, arith, inl, inr}
use Rattle.std.proofs.lemmas.List.{length-take-le, take_all, map_push, reverse-append, length-drop}
use Rattle.std.proofs.Math.Seq.{take-add}
use Rattle.qw_octet_grammar.specs.Grammar.{Next, goes_on, ends, octet, Spells}
use Rattle.qw_octet_grammar.specs.Writing.{Puts}
use Rattle.qw_module.specs.declared.instruction.ValType.{ValType}
use Rattle.qw_module.specs.declared.instruction.Instr.{Instr}
use Rattle.qw_module.specs.declared.instruction.Instr.TheVariants as i
use Rattle.qw_module.specs.Syntax.{Sequences, sequence_at, labels_in}
use Rattle.qw_binary.specs.Instructions.{Opener, first, Progress, at_first, begun, instruction, instruction_of, expression}
use Rattle.qw_binary.specs.Inner.Reader.{opener_of}
use Rattle.qw_binary.specs.Inner.Writer.{open_of, progress_of, within_open}
use Rattle.qw_binary.specs.Inner.Followed.{IsAlone, IsFresh, Holds, Stands, IsAt, IsDead, Passes}
use Rattle.qw_binary.specs.declared.read.expression.Opener.TheVariants as by
use Rattle.qw_binary.specs.declared.write.expression.Around.{Around}
use Rattle.qw_binary.specs.declared.write.expression.Writer.{Writer}
use Rattle.qw_binary.proofs.Followed.{fits_turn, here, here_opens, here_alone, here_names, here_number, here_last, here_inner, passes, dead}
use Rattle.qw_binary.proofs.WriteExpression.{take_next, take_sequence, reversed_push, puts_otherwise}

map_reverse : {A B : Type 0} (f : A → B) (xs : List A) → reverse (map f xs) ≡ map f (reverse xs)
map_reverse f [] = refl
map_reverse f (x ∷ xs) = reverse-append (f x ∷ []) (map f xs) ∙ ap (λ w. w ++ f x ∷ []) (map_reverse f xs) ∙ sym (ap (map f) (reverse-append (x ∷ []) xs) ∙ map_push f (reverse xs) x)

pub is_here : (body : Sequences) (w : Writer) → here body w.ended w.labels (reverse w.around.items) w.sequence w.place ≡ progress_of body w
is_here body w = rw map_reverse refl

pub is_within : (body : Sequences) (a : Around) (w : Writer) → here body w.ended w.labels (a ∷ reverse w.around.items) w.sequence w.place ≡ within_open body a (progress_of body w)
is_within body a w = rw map_reverse refl

-- no sequence
pub none_dead : (body : Sequences) → length body.each ≡ 0 → IsDead body (goes_on at_first)
none_dead body none = dead body at_first (λ r f t. let h = fits_turn body at_first r t f in let e : h.number + 1 ≡ length body.each = h.fits.0 in omega (arith, e, none))

module _ (body : Sequences) (ended labels : ℕ) (around : List Around) (sequence place : ℕ) (stands : Stands body around sequence) where
  pub open_passes : (x : Instr) → slice_get (sequence_at body sequence) place ≡ Some x → (o : Opener) → IsFresh o → (n : ℕ) → Holds o x n
      → Passes body (goes_on (here body ended labels around sequence place)) (goes_on (begun (here body ended labels around sequence place) o))
  open_passes x at o fresh n holds = passes body (here body ended labels around sequence place) _ (λ r f t. (here_opens body ended labels around sequence place stands r f x at o fresh n holds t).2)

  pub open_dead : (x : Instr) → slice_get (sequence_at body sequence) place ≡ Some x → (o : Opener) → IsFresh o → (n : ℕ) → Holds o x n → ended ≤ length body.each → (n < ended) ⊎ (sequence ≤ n)
      → IsDead body (goes_on (here body ended labels around sequence place))
  open_dead x at o fresh n holds le out = dead body (here body ended labels around sequence place) (λ r f t.
      let h = here_opens body ended labels around sequence place stands r f x at o fresh n holds t in
      elim out [
        | inl low ↦ omega (arith, h.0, low, length-take-le ended body.each le)
        | inr high ↦ omega (arith, h.1, high)
      ])

  pub alone_passes : (x : Instr) → slice_get (sequence_at body sequence) place ≡ Some x → IsAlone x
      → Passes body (goes_on (here body ended labels around sequence place)) (goes_on (here body ended labels around sequence (place + 1)))
  alone_passes x at alone = rw (take_next (sequence_at body sequence) place x at) (passes body (here body ended labels around sequence place) _ (λ r f t. here_alone body ended labels around sequence place stands r f x at alone t))

  pub table_dead : (from count default : ℕ) → slice_get (sequence_at body sequence) place ≡ Some (i.BrTable from count default) → labels ≤ length body.labels → (from ≡ labels → ⊥) ⊎ (length body.labels < from + count)
      → IsDead body (goes_on (here body ended labels around sequence place))
  table_dead from count default at le out = dead body (here body ended labels around sequence place) (λ r f t.
      let h = here_names body ended labels around sequence place stands r f from count default at t in
      elim out [
        | inl other ↦ other (h.0 ∙ length-take-le labels body.labels le)
        | inr short ↦ omega (arith, h.1, short)
      ])

  pub table_passes : (count default : ℕ) → slice_get (sequence_at body sequence) place ≡ Some (i.BrTable labels count default) → labels + count ≤ length body.labels
      → Passes body (goes_on (here body ended labels around sequence place)) (goes_on (here body ended (labels + count) around sequence (place + 1)))
  table_passes count default at le =
      let named = labels_in body.labels labels count in
      let before : length (take labels body.labels) ≡ labels = length-take-le labels body.labels (omega (arith, le)) in
      let many : length named ≡ count = length-take-le count (drop labels body.labels) (omega (arith, le, length-drop labels body.labels)) in
      let now : take (place + 1) (sequence_at body sequence) ≡ take place (sequence_at body sequence) ++ i.BrTable (length (take labels body.labels)) (length named) default ∷ [] = rw (before, many) (take_next (sequence_at body sequence) place (i.BrTable labels count default) at) in
      rw (now, take-add labels count body.labels)
      (passes body (here body ended labels around sequence place) _ (λ r f t. (here_names body ended labels around sequence place stands r f labels count default at t).2))

  pub end_dead : length (sequence_at body sequence) ≤ place → ended ≤ length body.each → (sequence ≡ ended → ⊥) ⊎ (length body.each ≤ ended) → IsDead body (goes_on (here body ended labels around sequence place))
  end_dead past le out = dead body (here body ended labels around sequence place) (λ r f t.
      let h = here_number body ended labels around sequence place stands past r f t in
      let number = length-take-le ended body.each le in
      elim out [
        | inl other ↦ other (sym h.0 ∙ number)
        | inr short ↦ omega (arith, h.0, h.1, short, number)
      ])

module _ (body : Sequences) (ended labels sequence place : ℕ) (stands : Stands body [] sequence) (past : length (sequence_at body sequence) ≤ place) (le : ended ≤ length body.each) (few : labels ≤ length body.labels) where
  pub last_passes : Passes body (goes_on (here body ended labels [] sequence place)) (ends body)
  last_passes = passes body (here body ended labels [] sequence place) (ends body) (λ r f t. (here_last body ended labels sequence place stands past r f t).2)

  pub last_dead : (ended + 1 ≡ length body.each → ⊥) ⊎ (labels ≡ length body.labels → ⊥) → IsDead body (goes_on (here body ended labels [] sequence place))
  last_dead out = dead body (here body ended labels [] sequence place) (λ r f t.
      let h = here_last body ended labels sequence place stands past r f t in
      elim out [
        | inl other ↦ other (omega (arith, h.0, length-take-le ended body.each le))
        | inr other ↦ other (omega (arith, h.1, length-take-le labels body.labels few))
      ])

-- with the second sequence of an if
abbrev pub other : Around → (ended : ℕ) → Option ValType → Around
other a ended type = record { opener = by.Second type ended; sequence = a.sequence; place = a.place }

module _ (body : Sequences) (ended labels : ℕ) (a : Around) (outer : List Around) (place : ℕ) (stands : Stands body (a ∷ outer) ended) (past : length (sequence_at body ended) ≤ place) (there : ended < length body.each) (x : Instr) (at : slice_get (sequence_at body a.sequence) a.place ≡ Some x) where
  number : length (take ended body.each) ≡ ended
  number = length-take-le ended body.each (omega (arith, there))

  made_if : (s : Option ValType) (o : Opener) (n m : ℕ) → o ≡ first s → x ≡ instruction_of o n → x ≡ i.If s ended (Some m) → ⊥
  made_if s o n m e h k = let it : x ≡ i.If s n None = h ∙ ap (λ (p : Opener). instruction_of p n) e in cc

  pub inner_passes : x ≡ instruction_of (opener_of a.opener) ended → Passes body (goes_on (here body ended labels (a ∷ outer) ended place)) (goes_on (here body (ended + 1) labels outer a.sequence (a.place + 1)))
  inner_passes is = passes body (here body ended labels (a ∷ outer) ended place) _ (λ r f t.
      let held = instruction_of (opener_of a.opener) ended in
      elim (here_inner body ended labels a outer ended place stands past r f x at t) [
        | inl h ↦
            let whole = take_all place (sequence_at body ended) past in
            h.1 ∙ rw (number, whole, take_sequence body ended there, take_next (sequence_at body a.sequence) a.place held (subst (λ (y : Instr). slice_get (sequence_at body a.sequence) a.place ≡ Some y) is at)) refl
        | inr h ↦ let (type, n, opened, it, goes) = h in absurd (made_if type (opener_of a.opener) ended n opened is (subst (λ (m : ℕ). x ≡ i.If type m (Some n)) number it))
      ])

  pub other_dead : (type : Option ValType) (n : ℕ) → opener_of a.opener ≡ first type → (s : Option ValType) (b : ℕ) → x ≡ i.If s b (Some n) → (x ≡ i.If type ended (Some n) → ⊥) → IsDead body (goes_on (here body ended labels (a ∷ outer) ended place))
  other_dead type n opened s b is differs = dead body (here body ended labels (a ∷ outer) ended place) (λ r f t.
      elim (here_inner body ended labels a outer ended place stands past r f x at t) [
        | inl h ↦ let it : x ≡ i.If type (length (take ended body.each)) None = h.0 ∙ ap (λ (p : Opener). instruction_of p (length (take ended body.each))) opened in absurd cc
        | inr h ↦
            let (own, m, same, it, goes) = h in
            let found : x ≡ i.If own ended (Some m) = subst (λ (k : ℕ). x ≡ i.If own k (Some m)) number it in
            let types : first own ≡ first type = sym same ∙ opened in
            let type_is : own ≡ type = cc in
            let n_is : m ≡ n = cc in
            differs (found ∙ ap (λ (y : Option ValType). i.If y ended (Some m)) type_is ∙ ap (λ (k : ℕ). i.If type ended (Some k)) n_is)
      ])

  pub other_passes : (type : Option ValType) (n : ℕ) → opener_of a.opener ≡ first type → x ≡ i.If type ended (Some n)
      → Passes body (goes_on (here body ended labels (a ∷ outer) ended place)) (goes_on (here body (ended + 1) labels (other a ended type ∷ outer) n 0))
  other_passes type n opened is = passes body (here body ended labels (a ∷ outer) ended place) _ (λ r f t.
      elim (here_inner body ended labels a outer ended place stands past r f x at t) [
        | inl h ↦ let it : x ≡ i.If type (length (take ended body.each)) None = h.0 ∙ ap (λ (p : Opener). instruction_of p (length (take ended body.each))) opened in absurd cc
        | inr h ↦
            let (own, m, same, it, goes) = h in
            let types : first own ≡ first type = sym same ∙ opened in
            let type_is : own ≡ type = cc in
            let whole = take_all place (sequence_at body ended) past in
            goes ∙ rw (type_is, number, whole, take_sequence body ended there) refl
      ])

-- ---- the same of a writer

module _ (body : Sequences) (w : Writer) (is : IsAt body w) where
  pub from_here : (next : Next Progress Sequences) → Passes body (goes_on (here body w.ended w.labels (reverse w.around.items) w.sequence w.place)) next → Passes body (goes_on (progress_of body w)) next
  from_here next h = subst (λ (p : Progress). Passes body (goes_on p) next) (is_here body w) h

  dead_here : IsDead body (goes_on (here body w.ended w.labels (reverse w.around.items) w.sequence w.place)) → IsDead body (goes_on (progress_of body w))
  dead_here h = subst (λ (p : Progress). IsDead body (goes_on p)) (is_here body w) h

  pub opens : (x : Instr) → slice_get (sequence_at body w.sequence) w.place ≡ Some x → (o : Opener) → IsFresh o → (n : ℕ) → Holds o x n → Passes body (goes_on (progress_of body w)) (goes_on (begun (progress_of body w) o))
  opens x at o fresh n holds =
      subst (λ (p : Progress). Passes body (goes_on p) (goes_on (begun p o))) (is_here body w) (open_passes body w.ended w.labels (reverse w.around.items) w.sequence w.place is.stands x at o fresh n holds)

  pub no_opening : (x : Instr) → slice_get (sequence_at body w.sequence) w.place ≡ Some x → (o : Opener) → IsFresh o → (n : ℕ) → Holds o x n → (n < w.ended) ⊎ (w.sequence ≤ n) → IsDead body (goes_on (progress_of body w))
  no_opening x at o fresh n holds out = dead_here (open_dead body w.ended w.labels (reverse w.around.items) w.sequence w.place is.stands x at o fresh n holds is.ended out)

  pub goes_past : (x : Instr) → slice_get (sequence_at body w.sequence) w.place ≡ Some x → IsAlone x → Passes body (goes_on (progress_of body w)) (goes_on (progress_of body (record w { place = w.place + 1 })))
  goes_past x at alone =
      subst (λ (p : Progress). Passes body (goes_on (progress_of body w)) (goes_on p)) (is_here body (record w { place = w.place + 1 }))
      (from_here _ (alone_passes body w.ended w.labels (reverse w.around.items) w.sequence w.place is.stands x at alone))

  pub names_next : (from count default : ℕ) → slice_get (sequence_at body w.sequence) w.place ≡ Some (i.BrTable from count default) → from ≡ w.labels → from + count ≤ length body.labels
      → Passes body (goes_on (progress_of body w)) (goes_on (progress_of body (record w { labels = from + count; place = w.place + 1 })))
  names_next from count default at e le =
      let at' = subst (λ (k : ℕ). slice_get (sequence_at body w.sequence) w.place ≡ Some (i.BrTable k count default)) e at in
      let h = table_passes body w.ended w.labels (reverse w.around.items) w.sequence w.place is.stands count default at' (omega (arith, le, e)) in
      let g = subst (λ (k : ℕ). Passes body (goes_on (here body w.ended w.labels (reverse w.around.items) w.sequence w.place)) (goes_on (here body w.ended (k + count) (reverse w.around.items) w.sequence (w.place + 1)))) (sym e) h in
      subst (λ (p : Progress). Passes body (goes_on (progress_of body w)) (goes_on p)) (is_here body (record w { labels = from + count; place = w.place + 1 })) (from_here _ g)

  pub names_others : (from count default : ℕ) → slice_get (sequence_at body w.sequence) w.place ≡ Some (i.BrTable from count default) → (from ≡ w.labels → ⊥) ⊎ (length body.labels < from + count) → IsDead body (goes_on (progress_of body w))
  names_others from count default at out = dead_here (table_dead body w.ended w.labels (reverse w.around.items) w.sequence w.place is.stands from count default at is.labels out)

  pub ends_early : length (sequence_at body w.sequence) ≤ w.place → (w.sequence ≡ w.ended → ⊥) ⊎ (length body.each ≤ w.ended) → IsDead body (goes_on (progress_of body w))
  ends_early past out = dead_here (end_dead body w.ended w.labels (reverse w.around.items) w.sequence w.place is.stands past is.ended out)

  module _ (last : w.around.items ≡ []) (past : length (sequence_at body w.sequence) ≤ w.place) where
    none : reverse w.around.items ≡ []
    none = ap reverse last

    stands_last : Stands body [] w.sequence
    stands_last = subst (λ (os : List Around). Stands body os w.sequence) none is.stands

    pub ends_all : Passes body (goes_on (progress_of body w)) (ends body)
    ends_all = from_here (ends body) (subst (λ (os : List Around). Passes body (goes_on (here body w.ended w.labels os w.sequence w.place)) (ends body)) (sym none)
        (last_passes body w.ended w.labels w.sequence w.place stands_last past is.ended is.labels))

    pub ends_too_early : (w.ended + 1 ≡ length body.each → ⊥) ⊎ (w.labels ≡ length body.labels → ⊥) → IsDead body (goes_on (progress_of body w))
    ends_too_early out = dead_here (subst (λ (os : List Around). IsDead body (goes_on (here body w.ended w.labels os w.sequence w.place))) (sym none)
        (last_dead body w.ended w.labels w.sequence w.place stands_last past is.ended is.labels out))

module _ (body : Sequences) (a : Around) (w : Writer) (stands : Stands body (a ∷ reverse w.around.items) w.ended) (present : w.sequence ≡ w.ended) (past : length (sequence_at body w.ended) ≤ w.place) (there : w.ended < length body.each) where
  within_here : (next : Next Progress Sequences) → Passes body (goes_on (here body w.ended w.labels (a ∷ reverse w.around.items) w.ended w.place)) next → Passes body (goes_on (within_open body a (progress_of body w))) next
  within_here next h = subst (λ (p : Progress). Passes body (goes_on p) next) (is_within body a w) (subst (λ (k : ℕ). Passes body (goes_on (here body w.ended w.labels (a ∷ reverse w.around.items) k w.place)) next) (sym present) h)

  dead_within : IsDead body (goes_on (here body w.ended w.labels (a ∷ reverse w.around.items) w.ended w.place)) → IsDead body (goes_on (within_open body a (progress_of body w)))
  dead_within h = subst (λ (p : Progress). IsDead body (goes_on p)) (is_within body a w) (subst (λ (k : ℕ). IsDead body (goes_on (here body w.ended w.labels (a ∷ reverse w.around.items) k w.place))) (sym present) h)

  module _ (x : Instr) (at : slice_get (sequence_at body a.sequence) a.place ≡ Some x) where
    pub held : x ≡ instruction_of (opener_of a.opener) w.ended → Passes body (goes_on (within_open body a (progress_of body w))) (goes_on (progress_of body (record w { ended = w.ended + 1; sequence = a.sequence; place = a.place + 1 })))
    held is =
        subst (λ (p : Progress). Passes body (goes_on (within_open body a (progress_of body w))) (goes_on p)) (is_here body (record w { ended = w.ended + 1; sequence = a.sequence; place = a.place + 1 }))
        (within_here _ (inner_passes body w.ended w.labels a (reverse w.around.items) w.place stands past there x at is))

    pub not_other : (type : Option ValType) (n : ℕ) → opener_of a.opener ≡ first type → (own : Option ValType) (then_body : ℕ) → x ≡ i.If own then_body (Some n) → (x ≡ i.If type w.ended (Some n) → ⊥) → IsDead body (goes_on (within_open body a (progress_of body w)))
    not_other type n opened own then_body is differs = dead_within (other_dead body w.ended w.labels a (reverse w.around.items) w.place stands past there x at type n opened own then_body is differs)

    pub goes_other : (type : Option ValType) (n : ℕ) → opener_of a.opener ≡ first type → x ≡ i.If type w.ended (Some n) → (v : Writer) → v.ended ≡ w.ended + 1 → v.labels ≡ w.labels → v.around.items ≡ w.around.items ++ other a w.ended type ∷ [] → v.sequence ≡ n → v.place ≡ 0
        → Passes body (goes_on (within_open body a (progress_of body w))) (goes_on (progress_of body v))
    goes_other type n opened is v e l items s p =
        let o : Around = other a w.ended type in
        let turned : reverse v.around.items ≡ o ∷ reverse w.around.items = ap reverse items ∙ reverse-append w.around.items (o ∷ []) in
        let h = other_passes body w.ended w.labels a (reverse w.around.items) w.place stands past there x at type n opened is in
        let same : here body v.ended v.labels (reverse v.around.items) v.sequence v.place ≡ here body (w.ended + 1) w.labels (o ∷ reverse w.around.items) n 0 = rw (e, l, turned, s, p) refl in
        subst (λ (q : Progress). Passes body (goes_on (within_open body a (progress_of body w))) (goes_on q)) (sym same ∙ is_here body v) (within_here _ h)

-- the second sequence of an if is put
pub puts_other : (body : Sequences) (a : Around) (w v : Writer) (type : Option ValType) (old : List ℕ) → opener_of a.opener ≡ first type → w.sequence ≡ w.ended → length (sequence_at body w.ended) ≤ w.place → w.ended < length body.each
    → v.ended ≡ w.ended + 1 → v.labels ≡ w.labels → v.around.items ≡ w.around.items ++ other a w.ended type ∷ [] → v.place ≡ 0
    → Puts (octet (instruction (within_open body a (progress_of body w)))) (goes_on (progress_of body v)) old (old ++ 0x05 ∷ [])
puts_other body a w v type old opened present past there e l items p =
    rw (e, l, items, reversed_push, p, present, opened)
    (puts_otherwise body w.ended w.labels w.place type (take a.place (sequence_at body a.sequence)) (reverse (map (open_of body) w.around.items)) old there past)

-- ---- one step after the other

pub passes_same : (body : Sequences) (p : Next Progress Sequences) → Passes body p p
unfolding Passes
passes_same body p = λ count text c. (count, text, c)

pub passes_on : (body : Sequences) (p q r : Next Progress Sequences) → Passes body p q → Passes body q r → Passes body p r
unfolding Passes
passes_on body p q r f g = λ count text c. let (fewer, rest, d) = f count text c in g fewer rest d

pub dead_before : (body : Sequences) (p q : Next Progress Sequences) → Passes body p q → IsDead body q → IsDead body p
unfolding Passes IsDead
dead_before body p q f d = λ count text c. let (fewer, rest, e) = f count text c in d fewer rest e

-- a body to which nothing leads is not spelled
pub not_spelled : (body : Sequences) → IsDead body (goes_on at_first) → (text : List ℕ) → Spells expression body text → ⊥
unfolding Spells IsDead
not_spelled body d text s = d s.0 text s.1
