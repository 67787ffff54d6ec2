-- Exports by their octets: what they are, and where their names stand.
use Rattle.std.proofs.Common.{◌≡◌, ℕ, ◌-◌, ◌+◌, ◌<◌, ◌≤◌, ◌↔◌, ⊎_elim, Bool, List, [], ◌∷◌, length, take, drop, All, map, get_or, Result, Ok, refl, sym, ap, subst, ◌∙◌, arith}
use Rattle.std.specs.Str.{is_utf8}
use Rattle.std.specs.Prelude.{nat_lt}
use Rattle.std.specs.Prelude.{IsTrue}
use Rattle.std.specs.List.{AllPairs}
use Rattle.std.proofs.lemmas.Bool.{cases_lt}
use Rattle.std.proofs.lemmas.List.{length-map, get_or-map, get_or_default}
use Rattle.std.proofs.lemmas.List.Elements.{All-map}
use Rattle.qw_octet_grammar.specs.declared.fault.BinaryFault.{BinaryFault}
use Rattle.qw_octet_grammar.specs.declared.fault.BinaryFault.TheVariants.{NotModule}
use Rattle.qw_octet_grammar.specs.Grammar.{is, refuse, octets, after, pick}
use Rattle.qw_octet_grammar.specs.Numbers.{u32}
use Rattle.qw_octet_grammar.specs.Vectors.{name}
use Rattle.qw_octet_grammar.specs.Reading.{◌>>=◌, read}
use Rattle.qw_octet_grammar.proofs.GrammarLaws.{bind_ok, guard_ok, ok_is}
use Rattle.qw_module.specs.declared.module.ExportKind.{ExportKind}
use Rattle.qw_binary.specs.Contents.{ExportContents}
use Rattle.qw_binary.specs.Sections.{export_kind, export}
use Rattle.qw_scan.specs.declared.exports.Counts.{Counts}
use Rattle.qw_scan.specs.declared.exports.NamePlace.{NamePlace}
use Rattle.qw_scan.specs.Inner.Exported.{IsKindAmong, IsAmong, AreApart, AreNamedApart, name_in}
use Rattle.qw_valid.proofs.NameOrder.{apart_alike}
use Rattle.qw_scan.specs.Inner.ExportsAt.{export_by, export_at, IsExportAt}
use Rattle.qw_scan.proofs.Got.{got-pick, got-is}
use Rattle.qw_scan.proofs.Suffixes.{rest_at}

abbrev named : List ℕ → ExportKind → ExportContents
named text kind = record { name = text; kind = kind }

abbrev read_name : List ℕ → List ℕ → Result (List ℕ × List ℕ) BinaryFault
read_name text rest = Ok (text, rest)

abbrev read_kind : ExportKind → List ℕ → Result (ExportKind × List ℕ) BinaryFault
read_kind kind rest = Ok (kind, rest)

-- the name of an export, and what it exports
abbrev HasParts : ExportContents → List ℕ → List ℕ → Type 0
HasParts e bytes rest = (mid : List ℕ) × (read name bytes ≡ read_name e.name mid) × (read export_kind mid ≡ read_kind e.kind rest)

export_parts : (bytes : List ℕ) (e : ExportContents) (rest : List ℕ) → read export bytes ≡ Ok (e, rest) → HasParts e bytes rest
unfolding read
export_parts bytes e rest h =
    let a = bind_ok (read name bytes) (λ y. read (after export_kind (λ kind. is (named y.0 kind))) y.1) (e, rest) h in
    let o = bind_ok (read export_kind a.0.1) (λ z. Ok (named a.0.0 z.0, z.1)) (e, rest) a.2 in
    let q = ok_is (named a.0.0 o.0.0, o.0.1) (e, rest) o.2 in
    let text : a.0.0 ≡ e.name = ap (λ z. z.0.name) q in
    let kind : o.0.0 ≡ e.kind = ap (λ z. z.0.kind) q in
    let left : o.0.1 ≡ rest = ap (λ z. z.1) q in
    (a.0.1, a.1 ∙ ap (λ (t : List ℕ). read_name t a.0.1) text, o.1 ∙ ap (λ (k : ExportKind). read_kind k o.0.1) kind ∙ ap (λ (bs : List ℕ). read_kind e.kind bs) left)

pub kind_told : (bytes mid text last : List ℕ) (kind : ExportKind) → read name bytes ≡ Ok (text, mid) → read export_kind mid ≡ Ok (kind, last) → (e : ExportContents) (rest : List ℕ) → read export bytes ≡ Ok (e, rest) → kind ≡ e.kind
kind_told bytes mid text last kind one two e rest h =
    let p = export_parts bytes e rest h in
    let q = ok_is (text, mid) (e.name, p.0) (sym one ∙ p.1) in
    let here : mid ≡ p.0 = ap (λ z. z.1) q in
    ap (λ z. z.0) (ok_is (kind, last) (e.kind, rest) (sym two ∙ ap (λ (bs : List ℕ). read export_kind bs) here ∙ p.2))

-- an export that stands at a place
pub there_is : (whole : List ℕ) (offset : ℕ) → IsExportAt whole offset → (rest : List ℕ) × (read export (drop offset whole) ≡ Ok (export_at whole offset, rest))
unfolding export_at IsExportAt
there_is whole offset there = (there.1, there.2 ∙ ap (λ (e : ExportContents). found e there.1) (sym (ap export_by there.2)))
  where
    found : ExportContents → List ℕ → Result (ExportContents × List ℕ) BinaryFault
    found e rest = Ok (e, rest)

pub kind_there : (whole bytes : List ℕ) (offset : ℕ) (kind : ExportKind) → bytes ≡ drop offset whole → ((e : ExportContents) (rest : List ℕ) → read export bytes ≡ Ok (e, rest) → kind ≡ e.kind) →
    IsExportAt whole offset → kind ≡ (export_at whole offset).kind
kind_there whole bytes offset kind here told there =
    let t = there_is whole offset there in
    told (export_at whole offset) t.0 (ap (λ (bs : List ℕ). read export bs) here ∙ t.1)

-- ---- names

name_told : (bytes : List ℕ) (n : ℕ) (mid text left : List ℕ) → read u32 bytes ≡ Ok (n, mid) → read name bytes ≡ Ok (text, left) → take n mid ≡ text
unfolding read
name_told bytes n mid text left e h =
    let g = guard_ok (nat_lt (length mid) n) NotModule (read (pick (is_utf8 (take n mid)) (is (take n mid)) (refuse NotModule)) (drop n mid)) (text, left)
    (sym (ap (λ r. r >>= λ y. read (octets y.0 (λ t. pick (is_utf8 t) (is t) (refuse NotModule))) y.1) e) ∙ h) in
    got-pick (take n mid ≡ text) text left (drop n mid) (is_utf8 (take n mid)) (is (take n mid)) (refuse NotModule)
    (λ _. got-is (take n mid ≡ text) text left (drop n mid) (take n mid) (λ same behind. same)) (λ _ refused. absurd cc) g.1

pub name_there : (whole bytes : List ℕ) (offset n start : ℕ) (mid : List ℕ) → bytes ≡ drop offset whole → read u32 bytes ≡ Ok (n, mid) → start ≡ length whole - length mid → IsExportAt whole offset →
    take n (drop start whole) ≡ (export_at whole offset).name
name_there whole bytes offset n start mid here e place there =
    let t = there_is whole offset there in
    let p = export_parts (drop offset whole) (export_at whole offset) t.0 t.1 in
    let reads : read u32 (drop offset whole) ≡ Ok (n, mid) = ap (λ (bs : List ℕ). read u32 bs) (sym here) ∙ e in
    let behind : drop start whole ≡ mid = ap (λ (k : ℕ). drop k whole) place ∙ rest_at u32 whole offset n mid reads in
    ap (λ (bs : List ℕ). take n bs) behind ∙ name_told (drop offset whole) n mid (export_at whole offset).name p.0 reads p.1

-- ---- all exports

module _ (counts : Counts) (whole offsets : List ℕ) where
  abbrev pub AmongBelow : ℕ → Type 0
  AmongBelow i = (k d : ℕ) → k < i → IsAmong counts (export_at whole (get_or offsets k d))

  pub among_more : (i : ℕ) (kind : ExportKind) → i < length offsets → AmongBelow i → IsKindAmong counts kind → kind ≡ (export_at whole (get_or offsets i 0)).kind → AmongBelow (i + 1)
  among_more i kind within before among of k d lt =
      ⊎_elim (λ (less : k < i). before k d less)
      (λ (more : i ≤ k).
      let same : k ≡ i = omega (arith, more, lt) in
      let element : get_or offsets i 0 ≡ get_or offsets k d = get_or_default offsets i 0 d within ∙ ap (λ (n : ℕ). get_or offsets n d) (sym same) in
      subst (IsKindAmong counts) (of ∙ ap (λ (offset : ℕ). (export_at whole offset).kind) element) among)
      (cases_lt k i)

  pub all_among : (i : ℕ) → length offsets ≤ i → AmongBelow i → All (IsAmong counts) (map (export_at whole) offsets)
  all_among i all among = All-map (IsAmong counts) (export_at whole) offsets (λ k d lt. among k d (omega (arith, all, lt)))

  pub not_among : (i : ℕ) (kind : ExportKind) → i < length offsets → kind ≡ (export_at whole (get_or offsets i 0)).kind → All (IsAmong counts) (map (export_at whole) offsets) → IsKindAmong counts kind
  not_among i kind within of all =
      let e = export_at whole 0 in
      let there : IsAmong counts (get_or (map (export_at whole) offsets) i e) = all i e (omega (arith, within, length-map offsets (export_at whole))) in
      subst (IsKindAmong counts) (ap (λ (x : ExportContents). x.kind) (get_or-map (export_at whole) offsets i 0 e within) ∙ sym of) there

-- ---- all names

names_mapped : (whole offsets : List ℕ) → map (λ (e : ExportContents). e.name) (map (export_at whole) offsets) ≡ map (λ (offset : ℕ). (export_at whole offset).name) offsets
names_mapped whole [] = refl
names_mapped whole (offset ∷ offsets) = ap (λ (rest : List (List ℕ)). (export_at whole offset).name ∷ rest) (names_mapped whole offsets)

pub names_told : (whole offsets : List ℕ) (places : List NamePlace) (r : Bool) → map (name_in whole) places ≡ map (λ (offset : ℕ). (export_at whole offset).name) offsets →
    IsTrue r ↔ AllPairs (AreApart (name_in whole)) places → IsTrue r ↔ AllPairs AreNamedApart (map (export_at whole) offsets)
names_told whole offsets places r same told =
    let alike = same ∙ sym (names_mapped whole offsets) in (
      λ so. apart_alike (name_in whole) (λ (e : ExportContents). e.name) places (map (export_at whole) offsets) alike (told.0 so),
      λ all. told.1 (apart_alike (λ (e : ExportContents). e.name) (name_in whole) (map (export_at whole) offsets) places (sym alike) all),
    )
