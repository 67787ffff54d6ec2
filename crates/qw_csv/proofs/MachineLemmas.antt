-- The reader's machine over a text in two parts, of which the first ends where a record may begin, or within one.
use Rattle.std.proofs.Common.{Bool, true, false, List, ℕ, zero, suc, ◌≡◌, ◌≢◌, ◌∙◌, ◌∷◌, ◌++◌, [], Some, None, refl, sym, ap, subst, arith, append_assoc, inl, inr, get_or, take_all, length-append}
use Rattle.std.specs.Prelude.{◌==◌, ◌||◌, ◌⊎◌, ◌+◌, length, take, ◌≤◌, ◌<◌, ◌-◌}
use Rattle.std.proofs.lemmas.Bool.{false≢true}
use Rattle.std.proofs.lemmas.List.{take_more}
use Rattle.std.proofs.lemmas.Option.{none-some, same_Some}
use Rattle.csv.specs.Machine.{Read, ends_at_end, field_after, fields_after, in_field, is_end, next_record, start_field, start_record, step}
use Rattle.csv.specs.Reading.{AreRecords, Reached, default_config, is_bom, strip_bom}
use Rattle.csv.specs.declared.parser.Action.{Action}
use Rattle.csv.specs.declared.parser.Action.TheVariants as act
use Rattle.csv.specs.declared.parser.State.{State}
use Rattle.csv.specs.declared.parser.State.TheVariants as st
use Rattle.csv.specs.declared.parser.State.TheVariants.{StartRecord}
use Rattle.qw_csv.specs.Inner.Place.{HasNoQuote, IsAt, after}
use Rattle.qw_csv.specs.Loading.{LeavesToRead}
use Rattle.qw_csv.specs.declared.place.Place.{Place}
use Rattle.qw_csv.specs.declared.place.Scanned.{Scanned}
use Rattle.qw_csv.specs.declared.place.Place.TheVariants.{Quoted}

-- ---- steps that lead to where no record has begun

abbrev rests : State → Bool
rests st.StartRecord = true
rests st.AfterCr = true
rests st.InComment = true
rests st.StartField = false
rests st.InField = false
rests st.InQuoted = false
rests st.AfterQuote = false
rests st.InEscape = false

-- only a step that leaves a record as it was leads there, unless one ends
abbrev Idle : State × Action → State → Type 0
Idle to from = is_end to.1 ≡ false → rests to.0 ≡ true → (rests from ≡ true) × (to.1 ≡ act.Skip)

in_field_idle : (s : State) (c : ℕ) → Idle (in_field default_config c) s
in_field_idle s c = by_tests (c == 44) ((c == 13) || (c == 10)) refl refl
  where
    by_tests : (a b : Bool) → (c == 44) ≡ a → ((c == 13) || (c == 10)) ≡ b → Idle (in_field default_config c) s
    by_tests true b e k = rw e (λ more idle. absurd (false≢true idle))
    by_tests false true e k = rw (e, k) (λ more idle. absurd (false≢true (sym more)))
    by_tests false false e k = rw (e, k) (λ more idle. absurd (false≢true idle))

start_field_idle : (s : State) (c : ℕ) → Idle (start_field default_config c) s
start_field_idle s c = by_test (c == 34) refl
  where
    by_test : (a : Bool) → (c == 34) ≡ a → Idle (start_field default_config c) s
    by_test true e = rw e (λ more idle. absurd (false≢true idle))
    by_test false e = rw e (in_field_idle s c)

start_record_idle : (s : State) (c : ℕ) → rests s ≡ true → Idle (start_record default_config c) s
start_record_idle s c from = by_test ((c == 13) || (c == 10)) refl
  where
    by_test : (a : Bool) → ((c == 13) || (c == 10)) ≡ a → Idle (start_record default_config c) s
    by_test true e = rw e (λ more idle. (from, refl))
    by_test false e = rw e (rw e at (start_field_idle s c))

quoted_idle : (s : State) (c : ℕ) → Idle (step default_config st.InQuoted c) s
quoted_idle s c = by_test (c == 34) refl
  where
    by_test : (a : Bool) → (c == 34) ≡ a → Idle (step default_config st.InQuoted c) s
    by_test true e = rw e (λ more idle. absurd (false≢true idle))
    by_test false e = rw e (λ more idle. absurd (false≢true idle))

unquoted_idle : (s : State) (c : ℕ) → Idle (step default_config st.AfterQuote c) s
unquoted_idle s c = by_test (c == 34) refl
  where
    by_test : (a : Bool) → (c == 34) ≡ a → Idle (step default_config st.AfterQuote c) s
    by_test true e = rw e (λ more idle. absurd (false≢true idle))
    by_test false e = rw e (in_field_idle s c)

returned_idle : (c : ℕ) → Idle (step default_config st.AfterCr c) st.AfterCr
returned_idle c = by_test (c == 10) refl
  where
    by_test : (a : Bool) → (c == 10) ≡ a → Idle (step default_config st.AfterCr c) st.AfterCr
    by_test true e = rw e (λ more idle. (refl, refl))
    by_test false e = rw e (rw e at (start_record_idle st.AfterCr c refl))

comment_idle : (c : ℕ) → Idle (step default_config st.InComment c) st.InComment
comment_idle c = by_test (c == 10) refl
  where
    by_test : (a : Bool) → (c == 10) ≡ a → Idle (step default_config st.InComment c) st.InComment
    by_test true e = rw e (λ more idle. (refl, refl))
    by_test false e = rw e (λ more idle. (refl, refl))

step_idle : (s : State) (c : ℕ) → Idle (step default_config s c) s
step_idle st.StartRecord c = start_record_idle st.StartRecord c refl
step_idle st.StartField c = start_field_idle st.StartField c
step_idle st.InField c = in_field_idle st.InField c
step_idle st.InQuoted c = quoted_idle st.InQuoted c
step_idle st.AfterQuote c = unquoted_idle st.AfterQuote c
step_idle st.AfterCr c = returned_idle c
step_idle st.InEscape c = λ more idle. absurd (false≢true idle)
step_idle st.InComment c = comment_idle c

-- ---- a text of whole records, and what follows it

-- a record of the text is one of both
found_more : (s : State) (f : List (List ℕ)) (d p q : List ℕ) (r : Read) → next_record default_config s f d p ≡ Some r → after s p ≡ StartRecord
    → (next_record default_config s f d (p ++ q) ≡ Some (r.0, r.1, r.2 ++ q)) × (after r.1 r.2 ≡ StartRecord)
unfolding next_record after
found_more s f d [] q r is ends = absurd (none-some r (rw ends at is))
found_more s f d (c ∷ p) q r is ends =
    by_end (is_end (step default_config s c).1) refl
    (λ rest. found_more (step default_config s c).0 (fields_after (step default_config s c).1 f d) (field_after (step default_config s c).1 c d) p q r rest ends)
  where
    by_end : (b : Bool) → is_end (step default_config s c).1 ≡ b
        → (next_record default_config (step default_config s c).0 (fields_after (step default_config s c).1 f d) (field_after (step default_config s c).1 c d) p ≡ Some r
        → (next_record default_config (step default_config s c).0 (fields_after (step default_config s c).1 f d) (field_after (step default_config s c).1 c d) (p ++ q) ≡ Some (r.0, r.1, r.2 ++ q))
        × (after r.1 r.2 ≡ StartRecord))
        → (next_record default_config s f d (c ∷ (p ++ q)) ≡ Some (r.0, r.1, r.2 ++ q)) × (after r.1 r.2 ≡ StartRecord)
    by_end true e more = subst (λ (o : Read). (next_record default_config s f d (c ∷ (p ++ q)) ≡ Some (o.0, o.1, o.2 ++ q)) × (after o.1 o.2 ≡ StartRecord)) (same_Some {A = Read} (fields_after (step default_config s c).1 f d, (step default_config s c).0, p) r (rw e at is)) (rw e refl, ends)
    by_end false e more = let both = more (rw e at is) in (rw e both.0, both.1)

-- where the text has no more, the next one begins after it
none_more : (s : State) (f : List (List ℕ)) (d p q : List ℕ) → next_record default_config s f d p ≡ None → after s p ≡ StartRecord
    → (rests s ≡ true) × (next_record default_config s f d (p ++ q) ≡ next_record default_config StartRecord f d q)
unfolding next_record after
none_more s f d [] q none ends = rw ends (refl, refl)
none_more s f d (c ∷ p) q none ends =
    by_end (is_end (step default_config s c).1) refl
    (λ rest. none_more (step default_config s c).0 (fields_after (step default_config s c).1 f d) (field_after (step default_config s c).1 c d) p q rest ends)
  where
    by_end : (b : Bool) → is_end (step default_config s c).1 ≡ b
        → (next_record default_config (step default_config s c).0 (fields_after (step default_config s c).1 f d) (field_after (step default_config s c).1 c d) p ≡ None
        → (rests (step default_config s c).0 ≡ true)
        × (next_record default_config (step default_config s c).0 (fields_after (step default_config s c).1 f d) (field_after (step default_config s c).1 c d) (p ++ q)
        ≡ next_record default_config StartRecord (fields_after (step default_config s c).1 f d) (field_after (step default_config s c).1 c d) q))
        → (rests s ≡ true) × (next_record default_config s f d (c ∷ (p ++ q)) ≡ next_record default_config StartRecord f d q)
    by_end true e more = absurd (none-some _ (sym (rw e at none)))
    by_end false e more =
        let both = more (rw e at none) in
        let idle = step_idle s c e both.0 in
        (idle.0, rw idle.1 (rw idle.1 at both.1))

pub reached_more : (s s' : State) (p p' q : List ℕ) (rs : List (List (List ℕ))) → Reached default_config s p rs s' p' → after s p ≡ StartRecord
    → Reached default_config s (p ++ q) rs s' (p' ++ q) × (after s' p' ≡ StartRecord)
unfolding Reached
reached_more s s' p p' q [] (same, left) ends = ((same, ap (λ (x : List ℕ). x ++ q) left), rw (same, left) at ends)
reached_more s s' p p' q (r ∷ rs) (one, read, first, rest) ends =
    let more = found_more s [] [] p q one read ends in
    let behind = reached_more one.1 s' one.2 p' q rs rest more.1 in
    (((one.0, one.1, one.2 ++ q), more.0, first, behind.0), behind.1)

-- records, and then those of a text that goes on in the same way
pub reached_join : (s0 s s1 s2 : State) (x y z u : List ℕ) (a b : List (List (List ℕ))) → Reached default_config s0 x a s y
    → next_record default_config s [] [] y ≡ next_record default_config s1 [] [] z → Reached default_config s1 z b s2 u
    → (s3 : State) × (v : List ℕ) × Reached default_config s0 x (a ++ b) s3 v × (next_record default_config s3 [] [] v ≡ next_record default_config s2 [] [] u)
unfolding Reached
reached_join s0 s s1 s2 x y z u [] [] (e, k) same (e', k') = (s0, x, (refl, refl), rw (e, k, ← e', ← k') same)
reached_join s0 s s1 s2 x y z u [] (r ∷ rs) (e, k) same (one, read, first, rest) = (s2, u, (one, rw (e, k) (same ∙ read), first, rest), refl)
reached_join s0 s s1 s2 x y z u (r ∷ a) b (one, read, first, rest) same next =
    let (s3, v, behind, last) = reached_join one.1 s s1 s2 one.2 y z u a b rest same next in
    (s3, v, (one, read, first, behind), last)

-- ---- a record only gains fields as its text goes on

begun_ends : (s : State) → rests s ≡ false → ends_at_end s ≡ true
begun_ends st.StartRecord begun = absurd (false≢true (sym begun))
begun_ends st.AfterCr begun = absurd (false≢true (sym begun))
begun_ends st.InComment begun = absurd (false≢true (sym begun))
begun_ends st.StartField begun = refl
begun_ends st.InField begun = refl
begun_ends st.InQuoted begun = refl
begun_ends st.AfterQuote begun = refl
begun_ends st.InEscape begun = refl

ends_begun : (s : State) (place : Place) → IsAt s place → ends_at_end s ≡ true → rests s ≡ false
ends_begun st.StartRecord place at ends = absurd (false≢true ends)
ends_begun st.AfterCr place at ends = absurd (false≢true ends)
ends_begun st.InComment place at ends = absurd at
ends_begun st.StartField place at ends = refl
ends_begun st.InField place at ends = refl
ends_begun st.InQuoted place at ends = refl
ends_begun st.AfterQuote place at ends = refl
ends_begun st.InEscape place at ends = absurd at

stays_begun : (s : State) (c : ℕ) → rests s ≡ false → is_end (step default_config s c).1 ≡ false → rests (step default_config s c).0 ≡ false
stays_begun s c begun more = by_test (rests (step default_config s c).0) refl
  where
    by_test : (b : Bool) → rests (step default_config s c).0 ≡ b → rests (step default_config s c).0 ≡ false
    by_test true e = absurd (false≢true (sym begun ∙ (step_idle s c more e).0))
    by_test false e = e

fields_kept : (a : Action) (f : List (List ℕ)) (d : List ℕ) → length f ≤ length (fields_after a f d)
fields_kept act.EndField f d = omega (arith, length-append f (d ∷ []))
fields_kept act.Skip f d = omega arith
fields_kept act.Copy f d = omega arith
fields_kept act.EndRecord f d = omega (arith, length-append f (d ∷ []))

field_ended : (a : Action) (f : List (List ℕ)) (d : List ℕ) → is_end a ≡ true → length f + 1 ≤ length (fields_after a f d)
field_ended act.EndField f d end = absurd (false≢true end)
field_ended act.Skip f d end = absurd (false≢true end)
field_ended act.Copy f d end = absurd (false≢true end)
field_ended act.EndRecord f d end = omega (arith, length-append f (d ∷ []))

-- a read that gives at least so many fields
abbrev Gives : State → List (List ℕ) → List ℕ → List ℕ → ℕ → Type 0
Gives s f d p count = (r : Read) × (next_record default_config s f d p ≡ Some r) × (count ≤ length r.0)

-- a record that has begun ends, with a field more
begun_gives : (s : State) (f : List (List ℕ)) (d q : List ℕ) → rests s ≡ false → Gives s f d q (length f + 1)
unfolding next_record
begun_gives s f d [] begun = ((f ++ d ∷ [], st.StartRecord, []), rw (begun_ends s begun) refl, omega (arith, length-append f (d ∷ [])))
begun_gives s f d (c ∷ q) begun =
    by_end (is_end (step default_config s c).1) refl
    (λ more. begun_gives (step default_config s c).0 (fields_after (step default_config s c).1 f d) (field_after (step default_config s c).1 c d) q (stays_begun s c begun more))
  where
    by_end : (b : Bool) → is_end (step default_config s c).1 ≡ b
        → (is_end (step default_config s c).1 ≡ false
        → Gives (step default_config s c).0 (fields_after (step default_config s c).1 f d) (field_after (step default_config s c).1 c d) q (length (fields_after (step default_config s c).1 f d) + 1))
        → Gives s f d (c ∷ q) (length f + 1)
    by_end true e more = ((fields_after (step default_config s c).1 f d, (step default_config s c).0, q), rw e refl, field_ended (step default_config s c).1 f d e)
    by_end false e more =
        let (r, is, long) = more e in
        (r, rw e is, omega (arith, long, fields_kept (step default_config s c).1 f d))

-- what follows a text takes no field from its first record
grown_record : (s : State) (f : List (List ℕ)) (d p q : List ℕ) (r : Read) (place : Place) → next_record default_config s f d p ≡ Some r → IsAt (after s p) place
    → Gives s f d (p ++ q) (length r.0)
unfolding next_record after
grown_record s f d [] q r place is at = by_test (ends_at_end s) refl
  where
    by_test : (b : Bool) → ends_at_end s ≡ b → Gives s f d q (length r.0)
    by_test true e =
        let (r', is', long) = begun_gives s f d q (ends_begun s place at e) in
        (r', is', subst (λ (o : Read). length o.0 ≤ length r'.0) (same_Some {A = Read} (f ++ d ∷ [], st.StartRecord, []) r (rw e at is)) (omega (arith, long, length-append f (d ∷ []))))
    by_test false e = absurd (none-some r (rw e at is))
grown_record s f d (c ∷ p) q r place is at =
    by_end (is_end (step default_config s c).1) refl
    (λ rest. grown_record (step default_config s c).0 (fields_after (step default_config s c).1 f d) (field_after (step default_config s c).1 c d) p q r place rest at)
  where
    by_end : (b : Bool) → is_end (step default_config s c).1 ≡ b
        → (next_record default_config (step default_config s c).0 (fields_after (step default_config s c).1 f d) (field_after (step default_config s c).1 c d) p ≡ Some r
        → Gives (step default_config s c).0 (fields_after (step default_config s c).1 f d) (field_after (step default_config s c).1 c d) (p ++ q) (length r.0))
        → Gives s f d (c ∷ (p ++ q)) (length r.0)
    by_end true e more = (
      (fields_after (step default_config s c).1 f d, (step default_config s c).0, p ++ q),
      rw e refl,
      subst (λ (o : Read). length o.0 ≤ length (fields_after (step default_config s c).1 f d)) (same_Some {A = Read} (fields_after (step default_config s c).1 f d, (step default_config s c).0, p) r (rw e at is)) (omega arith),
    )
    by_end false e more =
        let (r', is', long) = more (rw e at is) in
        (r', rw e is', long)

pub reached_grown : (x q u : List ℕ) (fields : List (List ℕ)) (s : State) (place : Place) → Reached default_config StartRecord x (fields ∷ []) s u → IsAt (after StartRecord x) place
    → (more : List (List ℕ)) × (s' : State) × (u' : List ℕ) × Reached default_config StartRecord (x ++ q) (more ∷ []) s' u' × (length fields ≤ length more)
unfolding Reached
reached_grown x q u fields s place (one, read, first, rest) at =
    let (r, is, long) = grown_record StartRecord [] [] x q one place read at in
    (r.0, r.1, r.2, (r, is, refl, (refl, refl)), rw first long)

-- ---- the byte order mark, and the line end that is put in its place

line_skipped : (q : List ℕ) → next_record default_config StartRecord [] [] (10 ∷ q) ≡ next_record default_config StartRecord [] [] q
unfolding next_record
line_skipped q = refl

pub strip_line : (q : List ℕ) → strip_bom (10 ∷ q) ≡ 10 ∷ q
unfolding strip_bom
strip_line [] = refl
strip_line (b ∷ []) = refl
strip_line (b ∷ c ∷ q) = refl

strip_long : (w q : List ℕ) → 3 ≤ length w → strip_bom (w ++ q) ≡ strip_bom w ++ q
unfolding strip_bom
strip_long [] q long = absurd (omega (arith, long))
strip_long (a ∷ []) q long = absurd (omega (arith, long))
strip_long (a ∷ b ∷ []) q long = absurd (omega (arith, long))
strip_long (a ∷ b ∷ c ∷ w) q long = by_mark (is_bom a b c) refl
  where
    by_mark : (m : Bool) → is_bom a b c ≡ m → strip_bom (a ∷ b ∷ c ∷ (w ++ q)) ≡ strip_bom (a ∷ b ∷ c ∷ w) ++ q
    by_mark true e = rw e refl
    by_mark false e = rw e refl

-- ---- what waits to be read

-- nothing was read
pub leaves_all : (bytes : List ℕ) → LeavesToRead bytes [] bytes
unfolding Reached
leaves_all bytes behind = (StartRecord, strip_bom (bytes ++ behind), (refl, refl), refl)

-- more octets came
pub leaves_more : (given waiting piece : List ℕ) (records : List (List (List ℕ))) → LeavesToRead given records waiting → LeavesToRead (given ++ piece) records (waiting ++ piece)
leaves_more given waiting piece records h behind = rw (append_assoc given piece behind, append_assoc waiting piece behind) (h (piece ++ behind))

-- a mark, if there is one, is taken off
pub leaves_bare : (given waiting : List ℕ) (records : List (List (List ℕ))) → 3 ≤ length waiting → LeavesToRead given records waiting
    → LeavesToRead given records (10 ∷ strip_bom waiting)
leaves_bare given waiting records long h behind =
    let (s, y, reached, next) = h behind in
    let bare = strip_bom waiting ++ behind in
    let same : next_record default_config StartRecord [] [] (strip_bom (waiting ++ behind)) ≡ next_record default_config StartRecord [] [] (strip_bom (10 ∷ bare))
    = rw (strip_long waiting behind long, strip_line bare) (sym (line_skipped bare)) in
    (s, y, reached, next ∙ same)

-- records of what waits, with what follows, are those of the file after the ones before
pub leaves_at : (given waiting behind u : List ℕ) (records more : List (List (List ℕ))) (s : State) → LeavesToRead given records waiting
    → Reached default_config StartRecord (strip_bom (waiting ++ behind)) more s u
    → (s' : State) × (v : List ℕ) × Reached default_config StartRecord (strip_bom (given ++ behind)) (records ++ more) s' v
    × (next_record default_config s' [] [] v ≡ next_record default_config s [] [] u)
leaves_at given waiting behind u records more s h read =
    let (s0, y, reached, next) = h behind in
    reached_join StartRecord s0 StartRecord s (strip_bom (given ++ behind)) y (strip_bom (waiting ++ behind)) u records more reached next read

-- of whole lines, too
lines_at : (line rest behind : List ℕ) → (10 ∷ line) ++ (rest ++ behind) ≡ strip_bom (((10 ∷ line) ++ rest) ++ behind)
lines_at line rest behind = sym (strip_line ((line ++ rest) ++ behind) ∙ ap (λ (x : List ℕ). 10 ∷ x) (append_assoc line rest behind))

pub leaves_within : (given line rest behind u : List ℕ) (records more : List (List (List ℕ))) (s : State) → LeavesToRead given records ((10 ∷ line) ++ rest)
    → after StartRecord (10 ∷ line) ≡ StartRecord → Reached default_config StartRecord (10 ∷ line) more s u
    → (s' : State) × (v : List ℕ) × Reached default_config StartRecord (strip_bom (given ++ behind)) (records ++ more) s' v
    × (next_record default_config s' [] [] v ≡ next_record default_config s [] [] (u ++ (rest ++ behind))) × (after s u ≡ StartRecord)
leaves_within given line rest behind u records more s h ends read =
    let both = reached_more StartRecord s (10 ∷ line) u (rest ++ behind) more read ends in
    let (s', v, reached, next) = leaves_at given ((10 ∷ line) ++ rest) behind (u ++ (rest ++ behind)) records more s h
    (subst (λ (x : List ℕ). Reached default_config StartRecord x more s (u ++ (rest ++ behind))) (lines_at line rest behind) both.0) in
    (s', v, reached, next, both.1)

-- all records of whole lines were read
pub leaves_rest : (given line rest : List ℕ) (records more : List (List (List ℕ))) → LeavesToRead given records ((10 ∷ line) ++ rest)
    → after StartRecord (10 ∷ line) ≡ StartRecord → AreRecords default_config StartRecord (10 ∷ line) more → LeavesToRead given (records ++ more) (10 ∷ rest)
leaves_rest given line rest records more h ends (s, u, read, none) behind =
    let (s', v, reached, next, last) = leaves_within given line rest behind u records more s h ends read in
    let same : next_record default_config StartRecord [] [] (rest ++ behind) ≡ next_record default_config StartRecord [] [] (strip_bom (10 ∷ (rest ++ behind)))
    = rw (strip_line (rest ++ behind)) (sym (line_skipped (rest ++ behind))) in
    (s', v, reached, next ∙ (none_more s [] [] u (rest ++ behind) none last).1 ∙ same)

-- ---- the machine after a text

pub after_one : (s : State) (xs : List ℕ) (c : ℕ) → after s (xs ++ c ∷ []) ≡ (step default_config (after s xs) c).0
unfolding after
after_one s [] c = refl
after_one s (x ∷ xs) c = after_one (step default_config s x).0 xs c

pub after_both : (s : State) (xs ys : List ℕ) → after s (xs ++ ys) ≡ after (after s xs) ys
unfolding after
after_both s [] ys = refl
after_both s (x ∷ xs) ys = after_both (step default_config s x).0 xs ys

-- a line's end that isn't quoted ends a record
pub line_ends : (s : State) (place : Place) → IsAt s place → place ≢ Quoted → (step default_config s 10).0 ≡ StartRecord
line_ends st.StartRecord place at out = refl
line_ends st.StartField place at out = refl
line_ends st.InField place at out = refl
line_ends st.InQuoted place at out = absurd (out at)
line_ends st.AfterQuote place at out = refl
line_ends st.AfterCr place at out = refl
line_ends st.InEscape place at out = absurd at
line_ends st.InComment place at out = absurd at

-- what a scan tells of the first octets of a text
pub record Scans (place : Place) (front text : List ℕ) (scanned : Scanned) (count : ℕ) : Type 0 where
  pub place_is : (state : State) → IsAt state place → IsAt (after state front) scanned.place
  pub within : scanned.whole ≤ count
  pub whole : (state : State) → IsAt state place → 0 < scanned.whole → after state (take scanned.whole text) ≡ StartRecord

pub scans_none : (place : Place) (text : List ℕ) → Scans place [] text (record { place = place; whole = 0 }) 0
unfolding after
scans_none place text = record { place_is = λ state at. at; within = omega arith; whole = λ state at some. absurd (omega (arith, some)) }

pub scans_one : (place : Place) (text : List ℕ) (scanned next : Scanned) (count octet : ℕ) → take (count + 1) text ≡ take count text ++ octet ∷ [] → Scans place (take count text) text scanned count
    → ((state : State) → IsAt state scanned.place → IsAt (step default_config state octet).0 next.place)
    → (next.whole ≡ scanned.whole) ⊎ ((next.whole ≡ count + 1) × (octet ≡ 10) × (scanned.place ≢ Quoted))
    → Scans place (take (count + 1) text) text next (count + 1)
scans_one place text scanned next count octet last h step_is (inl same) = record {
  place_is = λ state at. rw (last, after_one state (take count text) octet) (step_is (after state (take count text)) (h.place_is state at));
  within = omega (arith, h.within, same);
  whole = λ state at some. rw same (h.whole state at (rw same at some));
}
scans_one place text scanned next count octet last h step_is (inr (now, line, out)) = record {
  place_is = λ state at. rw (last, after_one state (take count text) octet) (step_is (after state (take count text)) (h.place_is state at));
  within = omega (arith, now);
  whole = λ state at some. rw (now, last, after_one state (take count text) octet, line) (line_ends (after state (take count text)) scanned.place (h.place_is state at) out);
}

-- ---- a text without quotes

abbrev Calm : State → Type 0
Calm st.StartRecord = Unit {0}
Calm st.StartField = Unit {0}
Calm st.InField = Unit {0}
Calm st.AfterQuote = Unit {0}
Calm st.AfterCr = Unit {0}
Calm st.InQuoted = ⊥
Calm st.InEscape = ⊥
Calm st.InComment = ⊥

is_calm : (s : State) (place : Place) → IsAt s place → place ≢ Quoted → Calm s
is_calm st.StartRecord place at out = tt
is_calm st.StartField place at out = tt
is_calm st.InField place at out = tt
is_calm st.InQuoted place at out = absurd (out at)
is_calm st.AfterQuote place at out = tt
is_calm st.AfterCr place at out = tt
is_calm st.InEscape place at out = absurd at
is_calm st.InComment place at out = absurd at

calm_line : (s : State) → Calm s → (step default_config s 10).0 ≡ StartRecord
calm_line st.StartRecord calm = refl
calm_line st.StartField calm = refl
calm_line st.InField calm = refl
calm_line st.InQuoted calm = absurd calm
calm_line st.AfterQuote calm = refl
calm_line st.AfterCr calm = refl
calm_line st.InEscape calm = absurd calm
calm_line st.InComment calm = absurd calm

-- the same place comes after an octet that is no quote, wherever no quote is out
abbrev Same : ℕ → State × Action → Type 0
Same c to = Calm to.0 × ((place : Place) → IsAt (in_field default_config c).0 place → IsAt to.0 place)

in_field_same : (c : ℕ) → Same c (in_field default_config c)
in_field_same c = (by_tests (c == 44) (c == 13) (c == 10) refl refl refl, λ place at. at)
  where
    by_tests : (a b d : Bool) → (c == 44) ≡ a → (c == 13) ≡ b → (c == 10) ≡ d → Calm (in_field default_config c).0
    by_tests true b d e k l = rw e tt
    by_tests false true d e k l = rw (e, k) tt
    by_tests false false true e k l = rw (e, k, l) tt
    by_tests false false false e k l = rw (e, k, l) tt

start_field_same : (c : ℕ) → (c == 34) ≡ false → Same c (start_field default_config c)
start_field_same c plain = rw plain (in_field_same c)

start_record_same : (c : ℕ) → (c == 34) ≡ false → Same c (start_record default_config c)
start_record_same c plain = by_tests (c == 13) (c == 10) refl refl
  where
    comma : (c == 13) ≡ true → (c == 44) ≡ false
    comma e = let n : c ≡ 13 = grind (arith, e) in rw n refl

    comma' : (c == 10) ≡ true → (c == 44) ≡ false
    comma' e = let n : c ≡ 10 = grind (arith, e) in rw n refl

    by_tests : (b d : Bool) → (c == 13) ≡ b → (c == 10) ≡ d → Same c (start_record default_config c)
    by_tests true d k l = rw k (tt, (λ place at. rw (comma k) at at))
    by_tests false true k l = rw (k, l) (tt, (λ place at. rw (comma' l) at at))
    by_tests false false k l = rw (k, l) (rw (k, l) at (start_field_same c plain))

calm_same : (s : State) (c : ℕ) → Calm s → (c == 34) ≡ false → Same c (step default_config s c)
calm_same st.StartRecord c calm plain = start_record_same c plain
calm_same st.StartField c calm plain = start_field_same c plain
calm_same st.InField c calm plain = in_field_same c
calm_same st.InQuoted c calm plain = absurd calm
calm_same st.AfterQuote c calm plain = rw plain (in_field_same c)
calm_same st.AfterCr c calm plain = by_test (c == 10) refl
  where
    comma : (c == 10) ≡ true → (c == 44) ≡ false
    comma e = let n : c ≡ 10 = grind (arith, e) in rw n refl

    return : (c == 10) ≡ true → (c == 13) ≡ false
    return e = let n : c ≡ 10 = grind (arith, e) in rw n refl

    by_test : (d : Bool) → (c == 10) ≡ d → Same c (step default_config st.AfterCr c)
    by_test true l = rw l (tt, (λ place at. rw (comma l, return l) at at))
    by_test false l = rw l (rw l at (start_record_same c plain))
calm_same st.InEscape c calm plain = absurd calm
calm_same st.InComment c calm plain = absurd calm

not_quote : (c : ℕ) → c ≢ 34 → (c == 34) ≡ false
not_quote c other = by_test (c == 34) refl
  where
    by_test : (a : Bool) → (c == 34) ≡ a → (c == 34) ≡ false
    by_test true e = absurd (other (grind (arith, e)))
    by_test false e = e

after_calm : (s : State) (xs : List ℕ) → Calm s → HasNoQuote xs → Calm (after s xs)
unfolding after
after_calm s [] calm plain = calm
after_calm s (x ∷ xs) calm plain =
    after_calm (step default_config s x).0 xs (calm_same s x calm (not_quote x (plain 0 (omega arith)))).0 (λ at within. plain (suc at) (omega (arith, within)))

pub front_plain : (n : ℕ) (xs : List ℕ) → HasNoQuote xs → HasNoQuote (take n xs)
front_plain zero xs plain at within = absurd (omega (arith, within))
front_plain (suc n) [] plain at within = absurd (omega (arith, within))
front_plain (suc n) (x ∷ xs) plain zero within = plain 0 (omega arith)
front_plain (suc n) (x ∷ xs) plain (suc at) within = front_plain n xs (λ k low. plain (suc k) (omega (arith, low))) at (omega (arith, within))

module _ (place : Place) (text : List ℕ) (out : place ≢ Quoted) (plain : HasNoQuote text) where
  pub plain_whole : (whole : ℕ) → (0 < whole → take whole text ≡ take (whole - 1) text ++ 10 ∷ []) → (state : State) → IsAt state place → 0 < whole → after state (take whole text) ≡ StartRecord
  plain_whole whole line state at some =
      rw (line some, after_one state (take (whole - 1) text) 10)
      (calm_line (after state (take (whole - 1) text)) (after_calm state (take (whole - 1) text) (is_calm state place at out) (front_plain (whole - 1) text plain)))

  pub plain_place : (front : List ℕ) (last : ℕ) (next : Place) → text ≡ front ++ last ∷ [] → last ≢ 34 → HasNoQuote front → IsAt (step default_config st.InField last).0 next
      → (state : State) → IsAt state place → IsAt (after state text) next
  plain_place front last next is other before ends state at =
      rw (is, after_one state front last) ((calm_same (after state front) last (after_calm state front (is_calm state place at out) before) (not_quote last other)).1 next ends)

after_none : (s : State) (xs : List ℕ) → xs ≡ [] → after s xs ≡ s
unfolding after
after_none s xs is = rw is refl

pub plain_none : (place : Place) (text : List ℕ) → text ≡ [] → (state : State) → IsAt state place → IsAt (after state text) place
plain_none place text none state at = rw (after_none state text none) at

pub last_split : (xs : List ℕ) → 0 < length xs → xs ≡ take (length xs - 1) xs ++ get_or xs (length xs - 1) 0 ∷ []
last_split xs some =
    let same : length xs - 1 + 1 ≡ length xs = omega (arith, some) in
    sym (take_all (length xs) xs (omega arith)) ∙ (rw same at (take_more xs (length xs - 1) 0 (omega (arith, some))))
