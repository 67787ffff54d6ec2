-- How the taking of a file of a table goes on, and how it ends.
use Rattle.std.proofs.Common.{◌≡◌, ◌⊎◌, ◌↔◌, ◌∙◌, ℕ, zero, suc, ◌∷◌, inl, inr, ◌+◌, ◌≤◌, ◌<◌, Option, Some, None, Result, Ok, Err, IsErrAnd, IfErr, List, [], ◌++◌, length, take, drop, ap, sym, subst, arith, append_assoc, length-append, length-take, refl}
use Rattle.std.specs.Prelude.{unwrap_or, IsSomeAnd}
use Rattle.std.proofs.lemmas.List.{append-nil, length-drop, length-take-le, take-append-drop}
use Rattle.std.proofs.lemmas.Result.{err_from_is_err_and}
use Rattle.qw_io.specs.Files.{OfFile}
use Rattle.qw_types.specs.declared.schema.Table.{Table}
use Rattle.qw_csv.specs.Loading.{HasTaken, IsFirstPartFault, Progress}
use Rattle.qw_csv.specs.declared.loading.LoadFault.{LoadFault}
use Rattle.qw_csv.specs.declared.loading.LoadFault.TheVariants as load_faults
use Rattle.qw_top.specs.Asking.{AsksWithin, IsOne}
use Rattle.qw_top.specs.Inner.Shelves.{HasRead, Told, failed_file, failed_load, failed_read}
use Rattle.qw_top.specs.Inner.Tables.{Fails, Takes}
use Rattle.qw_top.specs.Inner.WholeFiles.{IsFront, Reaches}
use Rattle.qw_top.specs.Top.{Files, IsFile, IsTooLong, Names}
use Rattle.qw_top.specs.declared.files.ReadFault.{ReadFault}
use Rattle.qw_top.specs.declared.files.ReadFault.TheVariants as read_faults
use Rattle.qw_top.specs.declared.table_file.FileFault.{FileFault}
use Rattle.qw_top.specs.declared.table_file.FileFault.TheVariants.{Content, Unread}
use Rattle.qw_top.proofs.WholeFileLemmas.{HasRead-then, IsFront-longer, IsFront-more, IsFront-whole}

-- what a told file has, it has by what it has besides
pub of_file : (files : Files) (name : List ℕ) (P Q : List ℕ → Type 0) → ((file : List ℕ) → P file → Q file) → OfFile files name P → OfFile files name Q
of_file None name P Q more h = tt
of_file (Some bytes_of) name P Q more h = some_of (bytes_of name) h
  where
    some_of : (o : Option (List ℕ)) → IsSomeAnd o P → IsSomeAnd o Q
    some_of None h = h
    some_of (Some file) h = more file h

-- octets that were read are there
pub reaches_of : (files : Files) (name : List ℕ) (at : ℕ) → OfFile files name (λ file. at ≤ length file) → Reaches files name at
reaches_of None name at there = tt
reaches_of (Some bytes_of) name at there = some_of (bytes_of name) there
  where
    some_of : (o : Option (List ℕ)) → IsSomeAnd o (λ file. at ≤ length file) → at ≤ length (unwrap_or o [])
    some_of None there = absurd there
    some_of (Some file) there = there

pub reaches_none : (files : Files) (name : List ℕ) → Reaches files name 0
reaches_none None name = tt
reaches_none (Some bytes_of) name = omega arith

pub read_there : (files : Files) (name piece : List ℕ) (at count : ℕ) → 0 < count → count ≤ length piece → OfFile files name (λ file. take count piece ≡ take count (drop at file))
    → Reaches files name (at + count)
read_there files name piece at count some fits octets =
    reaches_of files name (at + count)
    (of_file files name (λ file. take count piece ≡ take count (drop at file)) (λ file. at + count ≤ length file)
    (λ file same. omega (arith, some, fits, ap length same, length-take-le count piece fits, length-take count (drop at file), length-drop at file)) octets)

-- a file that is short enough is some octets
pub some_octets : (files : Files) (name : List ℕ) (limit : ℕ) → OfFile files name (λ file. length file ≤ limit) → (bytes : List ℕ) × IsFile files name limit bytes × Unit {0}
some_octets None name limit short = ([], record { there = tt; short = omega arith }, tt)
some_octets (Some bytes_of) name limit short =
    let (bytes, there, few) = some_of (bytes_of name) short in
    (bytes, record { there = there; short = few }, tt)
  where
    some_of : (o : Option (List ℕ)) → IsSomeAnd o (λ file. length file ≤ limit) → (bytes : List ℕ) × IsSomeAnd o (λ file. file ≡ bytes) × (length bytes ≤ limit)
    some_of None short = absurd short
    some_of (Some file) short = (file, refl, short)

-- the file is its front and what stands behind it
pub behind_front : (files : Files) (name front : List ℕ) (limit : ℕ) (P : List ℕ → Type 0) → IsFront files name front → length front ≤ limit → OfFile files name (λ file. length file ≤ limit)
    → ((behind : List ℕ) → P (front ++ behind)) → (bytes : List ℕ) × IsFile files name limit bytes × P bytes
behind_front None name front limit P is within short holds = (front ++ [], record { there = tt; short = rw (append-nil front) within }, holds [])
behind_front (Some bytes_of) name front limit P is within short holds =
    let (bytes, there, few, has) = some_of (bytes_of name) is short in
    (bytes, record { there = there; short = few }, has)
  where
    some_of : (o : Option (List ℕ)) → front ≡ take (length front) (unwrap_or o []) → IsSomeAnd o (λ file. length file ≤ limit)
        → (bytes : List ℕ) × IsSomeAnd o (λ file. file ≡ bytes) × (length bytes ≤ limit) × P bytes
    some_of None is short = absurd short
    some_of (Some file) is short =
        let whole : front ++ drop (length front) file ≡ file = ap (λ (x : List ℕ). x ++ drop (length front) file) is ∙ take-append-drop (length front) file in
        (file, refl, short, subst P whole (holds (drop (length front) file)))

-- ---- how far the taking has come

pub record TakesOn (before now : Told) (name : List ℕ) (limit : ℕ) (table : Table) (names : Names) (start loader : Progress) (at : ℕ) : Type 0 where
  pub given : List ℕ
  pub front : IsFront before.files name given
  pub long : length given ≡ at
  pub taken : Takes table names start loader given
  pub within : at ≤ limit + 1
  pub shelf : HasRead None before now
  pub asked : AsksWithin (IsOne name limit) before.watched now.watched

module _ (before now : Told) (name : List ℕ) (limit : ℕ) (table : Table) (names : Names) (start loader : Progress) (at : ℕ) (h : TakesOn before now name limit table names start loader at) where
  pub more_front : (piece : List ℕ) (count : ℕ) → count ≤ length piece → OfFile before.files name (λ file. take count piece ≡ take count (drop at file))
      → IsFront before.files name (h.given ++ take count piece)
  more_front piece count fits octets = IsFront-more before.files name h.given piece count h.front fits (subst (λ (n : ℕ). OfFile before.files name (λ file. take count piece ≡ take count (drop n file))) (sym h.long) octets)

  pub more_long : (piece : List ℕ) (count : ℕ) → count ≤ length piece → length (h.given ++ take count piece) ≡ at + count
  more_long piece count fits = omega (arith, length-append h.given (take count piece), length-take-le count piece fits, h.long)

  pub takes_more : (after : Told) (next : Progress) (piece : List ℕ) (count : ℕ) → count ≤ length piece → OfFile before.files name (λ file. take count piece ≡ take count (drop at file))
      → at + count ≤ limit + 1
      → ((parts : List (List ℕ)) (given : List ℕ) → HasTaken table names.null parts loader given → HasTaken table names.null parts next (given ++ take count piece))
      → HasRead None before after → AsksWithin (IsOne name limit) before.watched after.watched → TakesOn before after name limit table names start next (at + count)
  takes_more after next piece count fits octets within taken shelf asked = record {
    given = h.given ++ take count piece;
    front = more_front piece count fits octets;
    long = more_long piece count fits;
    taken = λ parts started. taken parts h.given (h.taken parts started);
    within = within;
    shelf = shelf;
    asked = asked;
  }

  -- the file ends
  is_file : at ≤ limit → OfFile before.files name (λ file. length file ≤ at) → IsFile before.files name limit h.given
  is_file within end = record {
    there = IsFront-whole before.files name h.given h.front (subst (λ (n : ℕ). OfFile before.files name (λ file. length file ≤ n)) (sym h.long) end);
    short = omega (arith, h.long, within);
  }

  pub takes_file : at ≤ limit → OfFile before.files name (λ file. length file ≤ at) → (bytes : List ℕ) × IsFile before.files name limit bytes × Takes table names start loader bytes
  takes_file within end = (h.given, is_file within end, h.taken)

  -- it goes on past the limit
  pub is_longer : limit < at → IsTooLong before.files name limit
  is_longer past = IsFront-longer before.files name h.given limit h.front (omega (arith, h.long, past))

  -- a record is at fault, whatever follows
  pub fails_within : (e : LoadFault) (piece : List ℕ) (count : ℕ) → count ≤ length piece → OfFile before.files name (λ file. take count piece ≡ take count (drop at file)) → at + count ≤ limit
      → OfFile before.files name (λ file. length file ≤ limit)
      → ((parts further : List (List ℕ)) (given behind : List ℕ) → HasTaken table names.null parts loader given
      → IsFirstPartFault table names.null (parts ++ (given ++ (take count piece ++ behind)) ∷ further) (length parts + 1) e)
      → (bytes : List ℕ) × IsFile before.files name limit bytes × Fails table names start bytes e
  fails_within e piece count fits octets within short fails =
      behind_front before.files name (h.given ++ take count piece) limit (λ bytes. Fails table names start bytes e) (more_front piece count fits octets) (omega (arith, more_long piece count fits, within)) short
      (λ behind parts further started. rw (append_assoc h.given (take count piece) behind) (fails parts further h.given behind (h.taken parts started)))

-- ---- how far the rest was read

pub record SkipsOn (before now : Told) (name : List ℕ) (limit from at : ℕ) : Type 0 where
  pub there : Reaches before.files name at
  pub within : at ≤ limit + 1
  pub further : from ≤ at
  pub shelf : HasRead None before now
  pub asked : AsksWithin (IsOne name limit) before.watched now.watched

-- ---- how both begin, and what a call reads

pub front_none : (files : Files) (name : List ℕ) → IsFront files name []
front_none None name = tt
front_none (Some bytes_of) name = refl

pub shelf_none : (told : Told) → HasRead None told told
shelf_none told = record { same_files = refl; never_falls = omega arith; counts = (refl, refl) }

pub front_of : (count : ℕ) (xs ys : List ℕ) → count ≤ length xs → take count (xs ++ ys) ≡ take count xs
front_of zero xs ys fits = refl
front_of (suc count) [] ys fits = absurd (omega (arith, fits))
front_of (suc count) (x ∷ xs) ys fits = ap (λ (zs : List ℕ). x ∷ zs) (front_of count xs ys (omega (arith, fits)))

pub is_too_long : (files : Files) (name : List ℕ) (limit at : ℕ) → limit < at → Reaches files name at → IsTooLong files name limit
is_too_long None name limit at past there = tt
is_too_long (Some bytes_of) name limit at past there = some_of (bytes_of name) there
  where
    some_of : (o : Option (List ℕ)) → at ≤ length (unwrap_or o []) → IsSomeAnd o (λ file. limit < length file)
    some_of None there = absurd (omega (arith, past, there))
    some_of (Some file) there = omega (arith, past, there)

pub is_short : (files : Files) (name : List ℕ) (limit at : ℕ) → at ≤ limit → OfFile files name (λ file. length file ≤ at) → OfFile files name (λ file. length file ≤ limit)
is_short files name limit at within = of_file files name (λ file. length file ≤ at) (λ file. length file ≤ limit) (λ file end. omega (arith, within, end))

-- a call that asked for octets and got none
pub at_end : (files : Files) (name : List ℕ) (at count room : ℕ) → 0 < room → count ≡ 0 → OfFile files name (λ file. (count ≡ 0) ↔ ((room ≡ 0) ⊎ (length file ≤ at)))
    → OfFile files name (λ file. length file ≤ at)
at_end files name at count room some none_read =
    of_file files name (λ file. (count ≡ 0) ↔ ((room ≡ 0) ⊎ (length file ≤ at))) (λ file. length file ≤ at)
    (λ file iff. elim (iff.0 none_read) [ inl none ↦ absurd (omega (arith, some, none)) | inr short ↦ short ])

-- ---- what the loading returns where a call of it failed

abbrev fault_in : {L : Type 0} → Result L FileFault → FileFault → FileFault
fault_in (Ok loaded) other = other
fault_in (Err fault) other = fault

abbrev load_of : FileFault → LoadFault → LoadFault
load_of (Content load) other = load
load_of (Unread read) other = other

abbrev read_of : FileFault → ReadFault → ReadFault
read_of (Content load) other = other
read_of (Unread read) other = read

pub other_fault : (read : ReadFault) (load : LoadFault) → Unread read ≡ Content load → ⊥
other_fault read load same = cc

same_fault : {L : Type 0} (result : Result L FileFault) (fault other : FileFault) → result ≡ Err fault → result ≡ Err other → fault ≡ other
same_fault result fault other is same = ap (λ r. fault_in r fault) (sym is ∙ same)

-- a piece that wasn't read
module _ {L : Type 0} (read : ReadFault) (result : Result L FileFault) (is : IsErrAnd result (λ fault. fault ≡ Unread read)) where
  pub unread_long : (read ≡ read_faults.TooLong → ⊥) → result ≡ Err (Unread read_faults.TooLong) → ⊥
  unread_long other long =
      let p = err_from_is_err_and result is in
      other (ap (λ (f : FileFault). read_of f read) (sym p.2 ∙ same_fault result p.0 (Unread read_faults.TooLong) p.1 long))

  pub unread_content : (P : LoadFault → Type 0) → IfErr result (λ fault. (load : LoadFault) → fault ≡ Content load → (load ≡ load_faults.NoMemory → ⊥) → P load)
  unread_content P =
      let p = err_from_is_err_and result is in
      rw (p.1, p.2) (λ load same other. absurd (other_fault read load same))

  pub unread_shelf : (name : List ℕ) (count : Result ℕ ReadFault) (first second third : Told) → count ≡ Err read → HasRead None first second → HasRead (failed_read name count) second third →
      HasRead (failed_load name result) first third
  unread_shelf name count first second third failed before after =
      let p = err_from_is_err_and result is in
      rw (p.1, p.2) (by_fault read failed)
    where
      by_fault : (r : ReadFault) → count ≡ Err r → HasRead (failed_file name (Unread r)) first third
      by_fault read_faults.TooLong same = HasRead-then None first second third before (subst (λ (c : Result ℕ ReadFault). HasRead (failed_read name c) second third) same after)
      by_fault read_faults.Failed same = HasRead-then (Some name) first second third before (subst (λ (c : Result ℕ ReadFault). HasRead (failed_read name c) second third) same after)
      by_fault read_faults.NoMemory same = HasRead-then None first second third before (subst (λ (c : Result ℕ ReadFault). HasRead (failed_read name c) second third) same after)

-- a fault of the records, or want of memory
module _ {L : Type 0} (load : LoadFault) (result : Result L FileFault) (is : IsErrAnd result (λ fault. fault ≡ Content load)) where
  pub content_long : (read : ReadFault) → result ≡ Err (Unread read) → ⊥
  content_long read long =
      let p = err_from_is_err_and result is in
      other_fault read load (sym (same_fault result p.0 (Unread read) p.1 long) ∙ p.2)

  pub content_holds : (P : LoadFault → Type 0) → ((load ≡ load_faults.NoMemory → ⊥) → P load) →
      IfErr result (λ fault. (other : LoadFault) → fault ≡ Content other → (other ≡ load_faults.NoMemory → ⊥) → P other)
  content_holds P has =
      let p = err_from_is_err_and result is in
      rw (p.1, p.2) (λ other same ample. by_load other (ap (λ (f : FileFault). load_of f load) same) ample)
    where
      by_load : (other : LoadFault) → load ≡ other → (other ≡ load_faults.NoMemory → ⊥) → P other
      by_load other same ample = subst P same (has (λ want. ample (sym same ∙ want)))

  pub content_shelf : (name : List ℕ) (first second : Told) → HasRead None first second → HasRead (failed_load name result) first second
  content_shelf name first second read =
      let p = err_from_is_err_and result is in
      rw (p.1, p.2) read
