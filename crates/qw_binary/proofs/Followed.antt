-- A body says what a reader has read of it: from where it is, the octets that lead to the body have one way to go on.
use Rattle.std.proofs.Common.{◌≡◌, ◌⊎◌, ℕ, zero, suc, ◌==◌, ◌+◌, ◌<◌, ◌≤◌, Bool, cond, List, [], ◌∷◌, ◌++◌, length, take, drop, map, slice_get, Option, Some, None, Result, Ok, Err, refl, sym, ap, subst, ◌∙◌, append_assoc, arith, inl, inr}
use Rattle.std.proofs.lemmas.List.{append-nil, length-append, length-take-le, take_all, take_at, drop_at}
use Rattle.std.proofs.lemmas.Option.{slice_get_within, slice_get-get_or}
use Rattle.std.proofs.Math.Seq.{get_or-append_seam}
use Rattle.qw_octet_grammar.specs.declared.fault.BinaryFault.{BinaryFault}
use Rattle.qw_octet_grammar.specs.declared.fault.BinaryFault.TheVariants.{NotModule}
use Rattle.qw_octet_grammar.specs.Grammar.{Next, goes_on, ends, Spells}
use Rattle.qw_octet_grammar.specs.Numbers.{u32}
use Rattle.qw_octet_grammar.specs.Vectors.{vector}
use Rattle.qw_module.specs.declared.instruction.ValType.{ValType}
use Rattle.qw_module.specs.declared.instruction.Instr.{Instr}
use Rattle.qw_module.specs.declared.instruction.Instr.TheVariants as i
use Rattle.qw_module.specs.Syntax.{Sequences, sequence_at, labels_in}
use Rattle.qw_binary.specs.Types.{block_type}
use Rattle.qw_binary.specs.Instructions.{Opener, block, loop, first, second, Open, Progress, simple, begun, with_instruction, with_table, instruction, instruction_of, opener_by, else_of, with_else, at_end, at_else}
use Rattle.qw_binary.specs.Inner.Reader.{opener_of}
use Rattle.qw_binary.specs.Inner.Writer.{open_of}
use Rattle.qw_binary.specs.declared.write.expression.Around.{Around}
use Rattle.qw_binary.specs.Inner.Followed.{IsAlone, IsFresh, Holds, Stands, Leads, IsDead, Passes}
use Rattle.qw_binary.proofs.Apart.{some_is, ok_is, by_cond, by_pick, by_given, by_after, it_is, settled, simple_alone}

-- a list begins with another
abbrev pub Begins : {A : Type 0} → List A → List A → Type 0
Begins {A} xs ys = (rest : List A) × (ys ≡ xs ++ rest)

shorter : {A : Type 0} (xs more ys : List A) → Begins (xs ++ more) ys → Begins xs ys
shorter xs more ys (rest, e) = (more ++ rest, e ∙ append_assoc xs more rest)

seam : {A : Type 0} (xs : List A) (x : A) (ys : List A) → Begins (xs ++ x ∷ []) ys → slice_get ys (length xs) ≡ Some x
seam xs x ys (rest, e) =
    let whole : ys ≡ xs ++ x ∷ rest = e ∙ append_assoc xs (x ∷ []) rest in
    let within : length xs < length (xs ++ x ∷ rest) = omega (arith, length-append xs (x ∷ rest)) in
    rw whole (slice_get-get_or (xs ++ x ∷ rest) (length xs) x within ∙ ap Some (get_or-append_seam xs x rest x))

-- what was read so far fits the body: the present sequence has this number, and the sequences round it have numbers
abbrev pub Fits : Sequences → List Open → (now : List Instr) → (number : ℕ) → Type 0
Fits body [] now number = (number + 1 ≡ length body.each) × Begins now (sequence_at body number)
Fits body (outer ∷ around) now number =
    Begins now (sequence_at body number) × (above : ℕ) × (number < above)
    × (holder : Instr) × (slice_get (sequence_at body above) (length outer.before) ≡ Some holder) × Holds outer.opener holder number × Fits body around outer.before above

pub record FitsAll (body : Sequences) (p : Progress) : Type 0 where
  pub ended : Begins p.ended body.each
  pub labels : Begins p.labels body.labels
  pub number : ℕ
  pub above : length p.ended ≤ number
  pub fits : Fits body p.around p.now number

abbrev pub FitsNext : Sequences → Next Progress Sequences → Type 0
FitsNext body (goes_on p) = FitsAll body p
FitsNext body (ends found) = found ≡ body

fits_now : (body : Sequences) (around : List Open) (now : List Instr) (number : ℕ) → Fits body around now number → Begins now (sequence_at body number)
fits_now body [] now number h = h.1
fits_now body (outer ∷ around) now number h = h.0

fits_less : (body : Sequences) (around : List Open) (now more : List Instr) (number : ℕ) → Fits body around (now ++ more) number → Fits body around now number
fits_less body [] now more number h = (h.0, shorter now more (sequence_at body number) h.1)
fits_less body (outer ∷ around) now more number h =
    let (begins, above, lt, holder, at, holds, fits) = h in
    (shorter now more (sequence_at body number) begins, above, lt, holder, at, holds, fits)

-- an ended sequence stands at its number
ended_at : (body : Sequences) (ended : List (List Instr)) (now : List Instr) → Begins (ended ++ now ∷ []) body.each → sequence_at body (length ended) ≡ now
ended_at body ended now b = rw (seam ended now body.each b) refl

holds_made : (opener : Opener) (number : ℕ) → Holds opener (instruction_of opener number) number
holds_made (block type) number = refl
holds_made (loop type) number = refl
holds_made (first type) number = (None, refl)
holds_made (second type then_body) number = refl

-- it holds one at most
holds_one : (opener : Opener) (holder : Instr) (m n : ℕ) → Holds opener holder m → Holds opener holder n → m ≡ n
holds_one (block type) holder m n g h = cc
holds_one (loop type) holder m n g h = cc
holds_one (first type) holder m n (a, g) (b, h) = cc
holds_one (second type then_body) holder m n g h = cc

one_longer : {X : Type 0} (xs : List X) (x : X) → length (xs ++ x ∷ []) ≡ length xs + 1
one_longer xs x = omega (arith, length-append xs (x ∷ []))

-- the present sequence has ended, by the next number
record Closed (body : Sequences) (p : Progress) : Type 0 where
  pub ended : Begins p.ended body.each
  pub labels : Begins p.labels body.labels
  pub there : length p.ended < length body.each
  pub whole : sequence_at body (length p.ended) ≡ p.now
  pub fits : Fits body p.around p.now (length p.ended)

closed_fits : (body : Sequences) (p : Progress) → Closed body p → FitsAll body p
closed_fits body p c = record { ended = c.ended; labels = c.labels; number = length p.ended; above = omega arith; fits = c.fits }

there : (body : Sequences) (ended : List (List Instr)) (now : List Instr) → Begins (ended ++ now ∷ []) body.each → length ended < length body.each
there body ended now b = slice_get_within body.each (length ended) now (seam ended now body.each b)

closed_end : (body : Sequences) (ended : List (List Instr)) (labels : List ℕ) (around : List Open) (now : List Instr) → FitsNext body (at_end ended labels around now) → Closed body (record { ended = ended; labels = labels; around = around; now = now })
closed_end body ended labels [] now e =
    let each : body.each ≡ ended ++ now ∷ [] = ap (λ (b : Sequences). b.each) (sym e) in
    let some : Begins (ended ++ now ∷ []) body.each = ([], each ∙ sym (append-nil (ended ++ now ∷ []))) in
    let whole = ended_at body ended now some in
    record {
      ended = shorter ended (now ∷ []) body.each some;
      labels = ([], ap (λ (b : Sequences). b.labels) (sym e) ∙ sym (append-nil labels));
      there = there body ended now some;
      whole = whole;
      fits = (omega (arith, one_longer ended now, ap length each), ([], whole ∙ sym (append-nil now)));
    }
closed_end body ended labels (outer ∷ around) now h =
    let whole = ended_at body ended now h.ended in
    let held = instruction_of outer.opener (length ended) in
    record {
      ended = shorter ended (now ∷ []) body.each h.ended;
      labels = h.labels;
      there = there body ended now h.ended;
      whole = whole;
      fits = (
        ([], whole ∙ sym (append-nil now)),
        h.number,
        omega (arith, one_longer ended now, h.above),
        held,
        seam outer.before held (sequence_at body h.number) (fits_now body around (outer.before ++ held ∷ []) h.number h.fits),
        holds_made outer.opener (length ended),
        fits_less body around outer.before (held ∷ []) h.number h.fits,
      );
    }

-- an else stands behind the first sequence of an if
else_is : (opener made : Opener) (number : ℕ) → else_of opener number ≡ Ok made → (type : Option ValType) × (opener ≡ first type) × (made ≡ second type number)
else_is (block type) made number e = absurd cc
else_is (loop type) made number e = absurd cc
else_is (first type) made number e = (type, refl, cc)
else_is (second type then_body) made number e = absurd cc

abbrev pub otherwise : Progress → Option ValType → List Instr → List Open → Progress
otherwise p type before around = record p { ended = p.ended ++ p.now ∷ []; around = record { opener = second type (length p.ended); before = before } ∷ around; now = [] }

else_goes : (p : Progress) (outer : Open) (around : List Open) (r : Next Progress Sequences) → at_else p (outer ∷ around) ≡ Ok r
    → (type : Option ValType) × (outer.opener ≡ first type) × (r ≡ goes_on (otherwise p type outer.before around))
else_goes p outer around r e = one (else_of outer.opener (length p.ended)) refl e
  where
    one : (found : Result Opener BinaryFault) → else_of outer.opener (length p.ended) ≡ found → with_else found p outer.before around ≡ Ok r
        → (type : Option ValType) × (outer.opener ≡ first type) × (r ≡ goes_on (otherwise p type outer.before around))
    one (Err fault) is e = absurd cc
    one (Ok made) is e =
        let (type, opened, second_is) = else_is outer.opener made (length p.ended) is in
        let same : goes_on (record p { ended = p.ended ++ p.now ∷ []; around = record { opener = made; before = outer.before } ∷ around; now = [] }) ≡ r = ok_is _ r e in
        (type, opened, sym same ∙ ap (λ (m : Opener). goes_on (record p { ended = p.ended ++ p.now ∷ []; around = record { opener = m; before = outer.before } ∷ around; now = [] })) second_is)

closed_else : (body : Sequences) (p : Progress) (type : Option ValType) (before : List Instr) (around : List Open) → FitsAll body (otherwise p type before around)
    → Closed body (record p { around = record { opener = first type; before = before } ∷ around })
closed_else body p type before around h =
    let (begins, above, lt, holder, at, holds, outer) = h.fits in
    let whole = ended_at body p.ended p.now h.ended in
    record {
      ended = shorter p.ended (p.now ∷ []) body.each h.ended;
      labels = h.labels;
      there = there body p.ended p.now h.ended;
      whole = whole;
      fits = (([], whole ∙ sym (append-nil p.now)), above, omega (arith, one_longer p.ended p.now, h.above, lt), holder, at, (Some h.number, holds), outer);
    }

fits_begun : (body : Sequences) (p : Progress) (opener : Opener) → FitsAll body (begun p opener) → FitsAll body p
fits_begun body p opener h =
    let (now, above, lt, holder, at, holds, outer) = h.fits in
    record { ended = h.ended; labels = h.labels; number = above; above = omega (arith, h.above, lt); fits = outer }

fits_instruction : (body : Sequences) (p : Progress) (x : Instr) → FitsAll body (with_instruction p x) → FitsAll body p
fits_instruction body p x h =
    record { ended = h.ended; labels = h.labels; number = h.number; above = h.above; fits = fits_less body p.around p.now (x ∷ []) h.number h.fits }

fits_table : (body : Sequences) (p : Progress) (labels : List ℕ) (default : ℕ) → FitsAll body (with_table p labels default) → FitsAll body p
fits_table body p labels default h =
    record {
      ended = h.ended;
      labels = shorter p.labels labels body.labels h.labels;
      number = h.number;
      above = h.above;
      fits = fits_less body p.around p.now (i.BrTable (length p.labels) (length labels) default ∷ []) h.number h.fits;
    }

-- ---- what an instruction makes of what was read

-- the ways to go on
pub data Turn (p : Progress) (r : Next Progress Sequences) : Type 0 where
  with_end : r ≡ at_end p.ended p.labels p.around p.now → Turn p r
  with_otherwise : at_else p p.around ≡ Ok r → Turn p r
  with_opener : (opener : Opener) → IsFresh opener → r ≡ goes_on (begun p opener) → Turn p r
  with_labels : (labels : List ℕ) (default : ℕ) → r ≡ goes_on (with_table p labels default) → Turn p r
  with_one : (x : Instr) → IsAlone x → r ≡ goes_on (with_instruction p x) → Turn p r

opener_fresh : (code : ℕ) (make : Option ValType → Opener) → opener_by code ≡ Some make → (type : Option ValType) → IsFresh (make type)
opener_fresh code make = at (code == 0x02) (λ type. block type) (λ type. tt) _
    (at (code == 0x03) (λ type. loop type) (λ type. tt) _
    (at (code == 0x04) (λ type. first type) (λ type. tt) _ (λ e. absurd cc)))
  where
    at : (b : Bool) (f : Option ValType → Opener) → ((type : Option ValType) → IsFresh (f type)) → (rest : Option (Option ValType → Opener)) → (rest ≡ Some make → (type : Option ValType) → IsFresh (make type))
        → cond b (Some f) rest ≡ Some make → (type : Option ValType) → IsFresh (make type)
    at b f fresh rest later = by_cond ((type : Option ValType) → IsFresh (make type)) b (Some f) rest (Some make) (λ e. subst (λ (g : Option ValType → Opener). (type : Option ValType) → IsFresh (g type)) (some_is f make e) fresh) later

pub turn : (p : Progress) (code : ℕ) (r : Next Progress Sequences) (text : List ℕ) → Spells (instruction p code) r text → Turn p r
turn p code r text =
    by_pick (Turn p r) (code == 0x0B) _ _ r text (λ s. with_end (sym (it_is (at_end p.ended p.labels p.around p.now) r text s)))
    (by_pick (Turn p r) (code == 0x05) _ _ r text (λ s. with_otherwise (settled (at_else p p.around) r text s))
    (by_given (Turn p r) (opener_by code) _ _ r text (λ make e. by_after (Turn p r) block_type _ r text
    (λ type front rest s t. with_opener (make type) (opener_fresh code make e type) (sym (it_is (goes_on (begun p (make type))) r rest t))))
    (by_pick (Turn p r) (code == 0x0E) _ _ r text (by_after (Turn p r) (vector u32) _ r text (λ labels front rest s. by_after (Turn p r) u32 _ r rest
    (λ default here behind q t. with_labels labels default (sym (it_is (goes_on (with_table p labels default)) r behind t)))))
    (by_after (Turn p r) (simple code) _ r text (λ x front rest s t. with_one x (simple_alone code x front s) (sym (it_is (goes_on (with_instruction p x)) r rest t)))))))

closed_otherwise : (body : Sequences) (p : Progress) (around : List Open) (r : Next Progress Sequences) → at_else p around ≡ Ok r → FitsNext body r → Closed body (record p { around = around })
closed_otherwise body p [] r e h = absurd cc
closed_otherwise body p (outer ∷ around) r e h =
    let (type, opened, goes) = else_goes p outer around r e in
    let closed = closed_else body p type outer.before around (subst (FitsNext body) goes h) in
    subst (λ (m : Opener). Closed body (record p { around = record { opener = m; before = outer.before } ∷ around })) (sym opened) closed

pub fits_turn : (body : Sequences) (p : Progress) (r : Next Progress Sequences) → Turn p r → FitsNext body r → FitsAll body p
fits_turn body p r (with_end e) h = closed_fits body p (closed_end body p.ended p.labels p.around p.now (subst (FitsNext body) e h))
fits_turn body p r (with_otherwise e) h = closed_fits body p (closed_otherwise body p p.around r e h)
fits_turn body p r (with_opener opener fresh e) h = fits_begun body p opener (subst (FitsNext body) e h)
fits_turn body p r (with_labels labels default e) h = fits_table body p labels default (subst (FitsNext body) e h)
fits_turn body p r (with_one x alone e) h = fits_instruction body p x (subst (FitsNext body) e h)

pub fits_chain : (n : ℕ) (r : Next Progress Sequences) (body : Sequences) (text : List ℕ) → Leads body n r text → FitsNext body r
fits_chain zero (ends y) body text c = c.0
fits_chain (suc n) (ends y) body text c = c.0
fits_chain zero (goes_on p) body text c = absurd c
fits_chain (suc n) (goes_on p) body [] c = absurd c
fits_chain (suc n) (goes_on p) body (b ∷ text) c =
    let (r, front, rest, e, s, d) = c in
    fits_turn body p r (turn p b r front s) (fits_chain n r body rest d)

-- ---- the numbers that a writer has given are those that fit

some_one : {X : Type 0} (xs : List X) (n : ℕ) (x y : X) → slice_get xs n ≡ Some x → slice_get xs n ≡ Some y → x ≡ y
some_one xs n x y a b = cc

cut : {X : Type 0} (xs : List X) (n : ℕ) (x : X) → slice_get xs n ≡ Some x → length (take n xs) ≡ n
cut xs n x at = length-take-le n xs (omega (arith, slice_get_within xs n x at))

one_number : (body : Sequences) (around : List Around) (now : List Instr) (m n : ℕ) → Stands body around m → Fits body (map (open_of body) around) now n → n ≡ m
one_number body [] now m n s f = omega (arith, s, f.0)
one_number body (a ∷ outer) now m n s f =
    let (holder, at, holds, stands) = s in
    let (begins, above, lt, found, at', holds', fits) = f in
    let same : above ≡ a.sequence = one_number body outer (take a.place (sequence_at body a.sequence)) a.sequence above stands fits in
    let place = cut (sequence_at body a.sequence) a.place holder at in
    let here : slice_get (sequence_at body a.sequence) a.place ≡ Some found = subst (λ (k : ℕ). slice_get (sequence_at body a.sequence) k ≡ Some found) place (subst (λ (k : ℕ). slice_get (sequence_at body k) (length (take a.place (sequence_at body a.sequence))) ≡ Some found) same at') in
    let it : found ≡ holder = some_one (sequence_at body a.sequence) a.place found holder here at in
    holds_one (opener_of a.opener) holder n m (subst (λ (x : Instr). Holds (opener_of a.opener) x n) it holds') holds

-- the place where a writer stands
abbrev pub here : Sequences → (ended labels : ℕ) → List Around → (sequence place : ℕ) → Progress
here body ended labels around sequence place =
    record { ended = take ended body.each; labels = take labels body.labels; around = map (open_of body) around; now = take place (sequence_at body sequence) }

fresh_one : (o p : Opener) (x : Instr) (m n : ℕ) → IsFresh o → IsFresh p → Holds o x m → Holds p x n → (o ≡ p) × (m ≡ n)
fresh_one (block s) (block t) x m n a b g h = (cc, cc)
fresh_one (block s) (loop t) x m n a b g h = absurd cc
fresh_one (block s) (first t) x m n a b g (e, h) = absurd cc
fresh_one (loop s) (block t) x m n a b g h = absurd cc
fresh_one (loop s) (loop t) x m n a b g h = (cc, cc)
fresh_one (loop s) (first t) x m n a b g (e, h) = absurd cc
fresh_one (first s) (block t) x m n a b (d, g) h = absurd cc
fresh_one (first s) (loop t) x m n a b (d, g) h = absurd cc
fresh_one (first s) (first t) x m n a b (d, g) (e, h) = (cc, cc)
fresh_one (second s k) p x m n a b g h = absurd a
fresh_one o (second t k) x m n a b g h = absurd b

not_alone : (o : Opener) (x : Instr) (n : ℕ) → IsAlone x → Holds o x n → ⊥
not_alone (block t) x n alone h = subst IsAlone h alone
not_alone (loop t) x n alone h = subst IsAlone h alone
not_alone (first t) x n alone (e, h) = subst IsAlone h alone
not_alone (second t k) x n alone h = subst IsAlone h alone

not_table : (o : Opener) (x : Instr) (n from count default : ℕ) → x ≡ i.BrTable from count default → Holds o x n → ⊥
not_table (block t) x n from count default e h = cc
not_table (loop t) x n from count default e h = cc
not_table (first t) x n from count default e (d, h) = cc
not_table (second t k) x n from count default e h = cc

module _ (body : Sequences) (ended labels : ℕ) (around : List Around) (sequence place : ℕ) (stands : Stands body around sequence) where
  -- where an instruction stands, the present sequence has not ended
  no_end : (x : Instr) → slice_get (sequence_at body sequence) place ≡ Some x → Closed body (here body ended labels around sequence place) → ⊥
  no_end x at closed =
      let p = here body ended labels around sequence place in
      let same : length p.ended ≡ sequence = one_number body around p.now sequence (length p.ended) stands closed.fits in
      let whole : sequence_at body sequence ≡ take place (sequence_at body sequence) = subst (λ (k : ℕ). sequence_at body k ≡ take place (sequence_at body sequence)) same closed.whole in
      let long = ap length whole in
      omega (arith, long, cut (sequence_at body sequence) place x at, slice_get_within (sequence_at body sequence) place x at)

  -- the instruction behind what was read
  next_one : (q : Progress) (y : Instr) → FitsAll body q → q.around ≡ map (open_of body) around → q.now ≡ take place (sequence_at body sequence) ++ y ∷ []
      → slice_get (sequence_at body sequence) (length (take place (sequence_at body sequence))) ≡ Some y
  next_one q y h e d =
      let now = take place (sequence_at body sequence) in
      let fit : Fits body (map (open_of body) around) (now ++ y ∷ []) h.number = subst (λ (os : List Open). Fits body os (now ++ y ∷ []) h.number) e (subst (λ (xs : List Instr). Fits body q.around xs h.number) d h.fits) in
      let same : h.number ≡ sequence = one_number body around (now ++ y ∷ []) sequence h.number stands fit in
      let begins : Begins (now ++ y ∷ []) (sequence_at body sequence) = subst (λ (k : ℕ). Begins (now ++ y ∷ []) (sequence_at body k)) same (fits_now body (map (open_of body) around) (now ++ y ∷ []) h.number fit) in
      seam now y (sequence_at body sequence) begins

  -- and the one that opens a sequence
  opened_here : (o : Opener) → FitsAll body (begun (here body ended labels around sequence place) o)
      → (number : ℕ) × (holder : Instr) × (length (take ended body.each) ≤ number) × (number < sequence) × (slice_get (sequence_at body sequence) (length (take place (sequence_at body sequence))) ≡ Some holder) × Holds o holder number
  opened_here o h =
      let now = take place (sequence_at body sequence) in
      let (begins, above, lt, holder, at, holds, fit) = h.fits in
      let same : above ≡ sequence = one_number body around now sequence above stands fit in
      (h.number, holder, h.above, omega (arith, lt, same), subst (λ (k : ℕ). slice_get (sequence_at body k) (length now) ≡ Some holder) same at, holds)

  module _ (r : Next Progress Sequences) (fits : FitsNext body r) where
    pub here_opens : (x : Instr) → slice_get (sequence_at body sequence) place ≡ Some x → (o : Opener) → IsFresh o → (n : ℕ) → Holds o x n → Turn (here body ended labels around sequence place) r
        → (length (take ended body.each) ≤ n) × (n < sequence) × (r ≡ goes_on (begun (here body ended labels around sequence place) o))
    here_opens x at o fresh n holds (with_end e) = let p = here body ended labels around sequence place in absurd (no_end x at (closed_end body p.ended p.labels p.around p.now (subst (FitsNext body) e fits)))
    here_opens x at o fresh n holds (with_otherwise e) = let p = here body ended labels around sequence place in absurd (no_end x at (closed_otherwise body p p.around r e fits))
    here_opens x at o fresh n holds (with_opener q new e) =
        let (number, holder, above, lt, at', holds') = opened_here q (subst (FitsNext body) e fits) in
        let place_is = cut (sequence_at body sequence) place x at in
        let it : holder ≡ x = some_one (sequence_at body sequence) place holder x (subst (λ (k : ℕ). slice_get (sequence_at body sequence) k ≡ Some holder) place_is at') at in
        let one = fresh_one q o x number n new fresh (subst (λ (y : Instr). Holds q y number) it holds') holds in
        (omega (arith, above, one.1), omega (arith, lt, one.1), e ∙ ap (λ (m : Opener). goes_on (begun (here body ended labels around sequence place) m)) one.0)
    here_opens x at o fresh n holds (with_labels ls default e) =
        let p = here body ended labels around sequence place in
        let table = i.BrTable (length p.labels) (length ls) default in
        let at' = next_one (with_table p ls default) table (subst (FitsNext body) e fits) refl refl in
        let it : x ≡ table = some_one (sequence_at body sequence) place x table at (subst (λ (k : ℕ). slice_get (sequence_at body sequence) k ≡ Some table) (cut (sequence_at body sequence) place x at) at') in
        absurd (not_table o x n (length p.labels) (length ls) default it holds)
    here_opens x at o fresh n holds (with_one y alone e) =
        let p = here body ended labels around sequence place in
        let at' = next_one (with_instruction p y) y (subst (FitsNext body) e fits) refl refl in
        let it : y ≡ x = some_one (sequence_at body sequence) place y x (subst (λ (k : ℕ). slice_get (sequence_at body sequence) k ≡ Some y) (cut (sequence_at body sequence) place x at) at') at in
        absurd (not_alone o x n (subst IsAlone it alone) holds)

    pub here_alone : (x : Instr) → slice_get (sequence_at body sequence) place ≡ Some x → IsAlone x → Turn (here body ended labels around sequence place) r
        → r ≡ goes_on (with_instruction (here body ended labels around sequence place) x)
    here_alone x at alone (with_end e) = let p = here body ended labels around sequence place in absurd (no_end x at (closed_end body p.ended p.labels p.around p.now (subst (FitsNext body) e fits)))
    here_alone x at alone (with_otherwise e) = let p = here body ended labels around sequence place in absurd (no_end x at (closed_otherwise body p p.around r e fits))
    here_alone x at alone (with_opener q new e) =
        let (number, holder, above, lt, at', holds') = opened_here q (subst (FitsNext body) e fits) in
        let it : holder ≡ x = some_one (sequence_at body sequence) place holder x (subst (λ (k : ℕ). slice_get (sequence_at body sequence) k ≡ Some holder) (cut (sequence_at body sequence) place x at) at') at in
        absurd (not_alone q x number alone (subst (λ (y : Instr). Holds q y number) it holds'))
    here_alone x at alone (with_labels ls default e) =
        let p = here body ended labels around sequence place in
        let table = i.BrTable (length p.labels) (length ls) default in
        let at' = next_one (with_table p ls default) table (subst (FitsNext body) e fits) refl refl in
        let it : x ≡ table = some_one (sequence_at body sequence) place x table at (subst (λ (k : ℕ). slice_get (sequence_at body sequence) k ≡ Some table) (cut (sequence_at body sequence) place x at) at') in
        absurd (subst IsAlone it alone)
    here_alone x at alone (with_one y other e) =
        let p = here body ended labels around sequence place in
        let at' = next_one (with_instruction p y) y (subst (FitsNext body) e fits) refl refl in
        let it : y ≡ x = some_one (sequence_at body sequence) place y x (subst (λ (k : ℕ). slice_get (sequence_at body sequence) k ≡ Some y) (cut (sequence_at body sequence) place x at) at') at in
        e ∙ ap (λ (z : Instr). goes_on (with_instruction p z)) it

    pub here_names : (from count default : ℕ) → slice_get (sequence_at body sequence) place ≡ Some (i.BrTable from count default) → Turn (here body ended labels around sequence place) r
        → (from ≡ length (take labels body.labels)) × (from + count ≤ length body.labels) × (r ≡ goes_on (with_table (here body ended labels around sequence place) (labels_in body.labels from count) default))
    here_names from count default at (with_end e) = let p = here body ended labels around sequence place in absurd (no_end (i.BrTable from count default) at (closed_end body p.ended p.labels p.around p.now (subst (FitsNext body) e fits)))
    here_names from count default at (with_otherwise e) = let p = here body ended labels around sequence place in absurd (no_end (i.BrTable from count default) at (closed_otherwise body p p.around r e fits))
    here_names from count default at (with_opener q new e) =
        let (number, holder, above, lt, at', holds') = opened_here q (subst (FitsNext body) e fits) in
        let it : holder ≡ i.BrTable from count default = some_one (sequence_at body sequence) place holder (i.BrTable from count default) (subst (λ (k : ℕ). slice_get (sequence_at body sequence) k ≡ Some holder) (cut (sequence_at body sequence) place (i.BrTable from count default) at) at') at in
        absurd (not_table q holder number from count default it holds')
    here_names from count default at (with_labels ls other e) =
        let p = here body ended labels around sequence place in
        let table = i.BrTable (length p.labels) (length ls) other in
        let h : FitsAll body (with_table p ls other) = subst (FitsNext body) e fits in
        let at' = next_one (with_table p ls other) table h refl refl in
        let it : i.BrTable from count default ≡ table = some_one (sequence_at body sequence) place (i.BrTable from count default) table at (subst (λ (k : ℕ). slice_get (sequence_at body sequence) k ≡ Some table) (cut (sequence_at body sequence) place (i.BrTable from count default) at) at') in
        let begin : from ≡ length p.labels = cc in
        let many : count ≡ length ls = cc in
        let last : default ≡ other = cc in
        let (rest, whole) = h.labels in
        let parts : body.labels ≡ p.labels ++ (ls ++ rest) = whole ∙ append_assoc p.labels ls rest in
        let named : labels_in body.labels from count ≡ ls = rw (begin, many) (ap (λ (w : List ℕ). take (length ls) (drop (length p.labels) w)) parts ∙ ap (λ (w : List ℕ). take (length ls) w) (drop_at p.labels (ls ++ rest) (length p.labels) refl) ∙ take_at ls rest (length ls) refl) in (
          begin,
          omega (arith, begin, many, ap length parts, length-append p.labels (ls ++ rest), length-append ls rest),
          e ∙ ap (λ (w : List ℕ). goes_on (with_table p w other)) (sym named) ∙ ap (λ (d : ℕ). goes_on (with_table p (labels_in body.labels from count) d)) (sym last),
        )
    here_names from count default at (with_one y alone e) =
        let p = here body ended labels around sequence place in
        let at' = next_one (with_instruction p y) y (subst (FitsNext body) e fits) refl refl in
        let it : y ≡ i.BrTable from count default = some_one (sequence_at body sequence) place y (i.BrTable from count default) (subst (λ (k : ℕ). slice_get (sequence_at body sequence) k ≡ Some y) (cut (sequence_at body sequence) place (i.BrTable from count default) at) at') at in
        absurd (subst IsAlone it alone)

  -- where none stands, it has ended
  module _ (past : length (sequence_at body sequence) ≤ place) (r : Next Progress Sequences) (fits : FitsNext body r) where
    none_here : (y : Instr) → slice_get (sequence_at body sequence) (length (take place (sequence_at body sequence))) ≡ Some y → ⊥
    none_here y at =
        let whole = take_all place (sequence_at body sequence) past in
        omega (arith, ap length whole, slice_get_within (sequence_at body sequence) (length (take place (sequence_at body sequence))) y at)

    here_closes : Turn (here body ended labels around sequence place) r
        → Closed body (here body ended labels around sequence place)
        × ((r ≡ at_end (take ended body.each) (take labels body.labels) (map (open_of body) around) (take place (sequence_at body sequence))) ⊎ (at_else (here body ended labels around sequence place) (map (open_of body) around) ≡ Ok r))
    here_closes (with_end e) = let p = here body ended labels around sequence place in (closed_end body p.ended p.labels p.around p.now (subst (FitsNext body) e fits), inl e)
    here_closes (with_otherwise e) = let p = here body ended labels around sequence place in (closed_otherwise body p p.around r e fits, inr e)
    here_closes (with_opener q new e) =
        let (number, holder, above, lt, at', holds') = opened_here q (subst (FitsNext body) e fits) in
        absurd (none_here holder at')
    here_closes (with_labels ls default e) =
        let p = here body ended labels around sequence place in
        let table = i.BrTable (length p.labels) (length ls) default in
        absurd (none_here table (next_one (with_table p ls default) table (subst (FitsNext body) e fits) refl refl))
    here_closes (with_one y alone e) =
        let p = here body ended labels around sequence place in
        absurd (none_here y (next_one (with_instruction p y) y (subst (FitsNext body) e fits) refl refl))

    pub here_number : Turn (here body ended labels around sequence place) r → (length (take ended body.each) ≡ sequence) × (sequence < length body.each)
    here_number t =
        let p = here body ended labels around sequence place in
        let closed = (here_closes t).0 in
        let same : length p.ended ≡ sequence = one_number body around p.now sequence (length p.ended) stands closed.fits in
        (same, omega (arith, same, closed.there))

-- the outermost sequence
pub here_last : (body : Sequences) (ended labels sequence place : ℕ) → Stands body [] sequence → length (sequence_at body sequence) ≤ place → (r : Next Progress Sequences) → FitsNext body r → Turn (here body ended labels [] sequence place) r
    → (length (take ended body.each) + 1 ≡ length body.each) × (length (take labels body.labels) ≡ length body.labels) × (r ≡ ends body)
here_last body ended labels sequence place stands past r fits t =
    elim (here_closes body ended labels [] sequence place stands past r fits t).1 [
      | inl e ↦
          let found : Sequences = record { each = take ended body.each ++ take place (sequence_at body sequence) ∷ []; labels = take labels body.labels } in
          let same : found ≡ body = subst (FitsNext body) e fits in (
            sym (one_longer (take ended body.each) (take place (sequence_at body sequence))) ∙ ap (λ (b : Sequences). length b.each) same,
            ap (λ (b : Sequences). length b.labels) same,
            e ∙ ap (λ (b : Sequences). ends b) same,
          )
      | inr e ↦ absurd (let no : Err NotModule ≡ Ok r = e in cc)
    ]

-- one within another
pub here_inner : (body : Sequences) (ended labels : ℕ) (a : Around) (outer : List Around) (sequence place : ℕ) → Stands body (a ∷ outer) sequence → length (sequence_at body sequence) ≤ place → (r : Next Progress Sequences) → FitsNext body r
    → (x : Instr) → slice_get (sequence_at body a.sequence) a.place ≡ Some x → Turn (here body ended labels (a ∷ outer) sequence place) r
    → ((x ≡ instruction_of (opener_of a.opener) (length (take ended body.each))) × (r ≡ at_end (take ended body.each) (take labels body.labels) (map (open_of body) (a ∷ outer)) (take place (sequence_at body sequence))))
    ⊎ ((type : Option ValType) × (number : ℕ) × (opener_of a.opener ≡ first type) × (x ≡ i.If type (length (take ended body.each)) (Some number))
    × (r ≡ goes_on (otherwise (here body ended labels (a ∷ outer) sequence place) type (take a.place (sequence_at body a.sequence)) (map (open_of body) outer))))
here_inner body ended labels a outer sequence place stands past r fits x at t =
    let (holder, at', holds, above) = stands in
    let p = here body ended labels (a ∷ outer) sequence place in
    let before = take a.place (sequence_at body a.sequence) in
    let place_is = cut (sequence_at body a.sequence) a.place x at in
    elim (here_closes body ended labels (a ∷ outer) sequence place stands past r fits t).1 [
      | inl e ↦
          let held = instruction_of (opener_of a.opener) (length p.ended) in
          let q : Progress = record { ended = p.ended ++ p.now ∷ []; labels = p.labels; around = map (open_of body) outer; now = before ++ held ∷ [] } in
          let found = next_one body ended labels outer a.sequence a.place above q held (subst (FitsNext body) e fits) refl refl in
          inl (some_one (sequence_at body a.sequence) a.place x held at (subst (λ (k : ℕ). slice_get (sequence_at body a.sequence) k ≡ Some held) place_is found), e)
      | inr e ↦
          let (type, opened, goes) = else_goes p (open_of body a) (map (open_of body) outer) r e in
          let h : FitsAll body (otherwise p type before (map (open_of body) outer)) = subst (FitsNext body) goes fits in
          let (begins, number, lt, found, at'', held, fit) = h.fits in
          let same : number ≡ a.sequence = one_number body outer before a.sequence number above fit in
          let here_found : slice_get (sequence_at body a.sequence) a.place ≡ Some found = subst (λ (k : ℕ). slice_get (sequence_at body a.sequence) k ≡ Some found) place_is (subst (λ (k : ℕ). slice_get (sequence_at body k) (length before) ≡ Some found) same at'') in
          inr (type, h.number, opened, some_one (sequence_at body a.sequence) a.place x found at here_found ∙ held, goes)
    ]

-- ---- what leads to the body from where a writer stands

pub passes : (body : Sequences) (p : Progress) (q : Next Progress Sequences) → ((r : Next Progress Sequences) → FitsNext body r → Turn p r → r ≡ q) → Passes body (goes_on p) q
unfolding Passes
passes body p q f = λ count text c. one count text c
  where
    one : (count : ℕ) (text : List ℕ) → Leads body count (goes_on p) text → (fewer : ℕ) × (rest : List ℕ) × Leads body fewer q rest
    one zero text c = absurd c
    one (suc n) [] c = absurd c
    one (suc n) (b ∷ text) c =
        let (r, front, rest, e, s, d) = c in
        (n, rest, subst (λ (w : Next Progress Sequences). Leads body n w rest) (f r (fits_chain n r body rest d) (turn p b r front s)) d)

pub dead : (body : Sequences) (p : Progress) → ((r : Next Progress Sequences) → FitsNext body r → Turn p r → ⊥) → IsDead body (goes_on p)
unfolding IsDead
dead body p f = λ count text c. one count text c
  where
    one : (count : ℕ) (text : List ℕ) → Leads body count (goes_on p) text → ⊥
    one zero text c = absurd c
    one (suc n) [] c = absurd c
    one (suc n) (b ∷ text) c =
        let (r, front, rest, e, s, d) = c in
        f r (fits_chain n r body rest d) (turn p b r front s)
