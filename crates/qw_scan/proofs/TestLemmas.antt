-- What tests of what octets say answer, one thing after another.
use Rattle.std.proofs.Common.{◌≡◌, ℕ, ◌-◌, ◌+◌, ◌<◌, ◌≤◌, ◌↔◌, All, Bool, true, false, List, [], length, drop, Bor, IsTrue, Option, Some, None, Result, Ok, Err, refl, sym, ap, ◌∙◌}
use Rattle.std.specs.Prelude.{IfSome}
use Rattle.std.specs.List.{AllByRecursion}
use Rattle.std.proofs.lemmas.Bool.{false≢true}
use Rattle.std.proofs.lemmas.List.Elements.{All-from_recursion, recursion_from_All}
use Rattle.qw_octet_grammar.specs.declared.fault.BinaryFault.{BinaryFault}
use Rattle.qw_octet_grammar.specs.Grammar.{Grammar}
use Rattle.qw_octet_grammar.specs.Reading.{read}
use Rattle.qw_octet_grammar.specs.Vectors.{counted, one_more, vector}
use Rattle.qw_octet_grammar.specs.Numbers.{u32}
use Rattle.qw_octet_grammar.proofs.Loops.{begin_counted}
use Rattle.qw_valid.specs.declared.operands.Refusal.TheVariants.{IllTyped, NoMemory}
use Rattle.qw_scan.specs.Inner.Outlines.{values_of, values_at, IsThere}
use Rattle.qw_scan.specs.Inner.Tests.{Tells, TellsAll}
use Rattle.qw_scan.proofs.Vectors.{next_item, no_item, behind_count}

abbrev pub Text : Type 0
Text = Bor (List ℕ)

-- ---- one thing

module _ {A : Type 0} (IsSo : A → Type 0) where
  pub tells_ok : (rest : Text) (r : Result (A × List ℕ) BinaryFault) → ((x : A) (mid : List ℕ) → r ≡ Ok (x, mid) → IsSo x × (rest.now ≡ mid)) → Tells IsSo (Ok rest) r
  tells_ok rest (Ok found) is = is found.0 found.1 refl
  tells_ok rest (Err fault) is = tt

  pub tells_not : (r : Result (A × List ℕ) BinaryFault) → ((x : A) (mid : List ℕ) → r ≡ Ok (x, mid) → IsSo x → ⊥) → Tells IsSo (Err IllTyped) r
  tells_not (Ok found) isnt = isnt found.0 found.1 refl
  tells_not (Err fault) isnt = tt

  pub tells_nothing : (r : Result (A × List ℕ) BinaryFault) → Tells IsSo (Err NoMemory) r
  tells_nothing (Ok found) = tt
  tells_nothing (Err fault) = tt

  -- what it told, where the thing was read
  pub told_ok : (rest : Text) (r : Result (A × List ℕ) BinaryFault) (x : A) (mid : List ℕ) → Tells IsSo (Ok rest) r → r ≡ Ok (x, mid) → IsSo x × (rest.now ≡ mid)
  told_ok rest r x mid told e = rw e at told

  pub told_not : (r : Result (A × List ℕ) BinaryFault) (x : A) (mid : List ℕ) → Tells IsSo (Err IllTyped) r → r ≡ Ok (x, mid) → IsSo x → ⊥
  told_not r x mid told e = rw e at told

-- ---- all of so many

module _ {A : Type 0} (item : Grammar A) (IsSo : A → Type 0) where
  abbrev pub Items : ℕ → List ℕ → Result (List A × List ℕ) BinaryFault
  Items n bytes = read (counted n (one_more item) []) bytes

  -- what is still to be tested decides
  abbrev pub StillTells : (count i : ℕ) → (octets rest : List ℕ) → Type 0
  StillTells count i octets rest =
      (xs : List A) (mid : List ℕ) → Items count octets ≡ Ok (xs, mid) →
      (left : List A) × (Items (count - i) rest ≡ Ok (left, mid)) × (AllByRecursion IsSo left ↔ AllByRecursion IsSo xs)

  pub still_first : (count : ℕ) (octets : List ℕ) → StillTells count 0 octets octets
  still_first count octets xs mid e = (xs, begin_counted (one_more item) count [] octets ∙ e, (λ all. all, λ all. all))

  pub still_more : (count i : ℕ) (octets rest : List ℕ) (after : Text) → i < count → Tells IsSo (Ok after) (read item rest) → StillTells count i octets rest → StillTells count (i + 1) octets after.now
  still_more count i octets rest after lt told still xs mid e =
      let s = still xs mid e in
      let n = next_item item count i rest s.0 mid lt s.1 in
      let t = told_ok IsSo after (read item rest) n.0 n.1 told n.3 in (
        n.2,
        ap (λ (bs : List ℕ). Items (count - (i + 1)) bs) t.1 ∙ n.4,
        (
          λ all. s.2.0 (rw n.5 (t.0, all)),
          λ all. let h = s.2.1 all in (rw n.5 at h).1,
        ),
      )

  all_answer : (are : Bool) (r : Result (List A × List ℕ) BinaryFault) → ((xs : List A) (mid : List ℕ) → r ≡ Ok (xs, mid) → IsTrue are ↔ AllByRecursion IsSo xs) → TellsAll IsSo (Some are) r
  all_answer are (Ok found) is =
      let h = is found.0 found.1 refl in
      (λ so. All-from_recursion IsSo found.0 (h.0 so), λ all. h.1 (recursion_from_All IsSo found.0 all))
  all_answer are (Err fault) is = tt

  pub still_none : (count i : ℕ) (octets rest : List ℕ) → count ≤ i → StillTells count i octets rest → TellsAll IsSo (Some true) (Items count octets)
  still_none count i octets rest le still =
      all_answer true (Items count octets)
      (λ xs mid e. let s = still xs mid e in (λ _. s.2.0 (rw (no_item item count i rest s.0 mid le s.1) tt), λ _. refl))

  pub still_not : (count i : ℕ) (octets rest : List ℕ) → i < count → Tells IsSo (Err IllTyped) (read item rest) → StillTells count i octets rest → TellsAll IsSo (Some false) (Items count octets)
  still_not count i octets rest lt told still =
      all_answer false (Items count octets)
      (λ xs mid e.
      let s = still xs mid e in
      let n = next_item item count i rest s.0 mid lt s.1 in
      (λ so. absurd (false≢true so), λ all. let h = s.2.1 all in absurd (told_not IsSo (read item rest) n.0 n.1 told n.3 (rw n.5 at h).0)))

-- ---- all that stand somewhere

module _ {A : Type 0} (item : Grammar A) (IsSo : A → Type 0) where
  -- those of a place, once they were read
  pub items_at : (octets : List ℕ) (at : ℕ) (n : ℕ) (mid : List ℕ) → read u32 (drop at octets) ≡ Ok (n, mid) → IsThere (vector item) octets (Some at) →
      (rest : List ℕ) × (read (counted n (one_more item) []) mid ≡ Ok (values_at (vector item) octets (Some at), rest))
  unfolding values_at IsThere
  items_at octets at n mid e there =
      let (values, rest, reads) = there in
      (rest, behind_count item (drop at octets) n mid e ∙ reads ∙ ap (λ (l : List A). found l rest) (sym (ap values_of reads)))
    where
      found : List A → List ℕ → Result (List A × List ℕ) BinaryFault
      found l rest = Ok (l, rest)

  told_all : (hold : Bool) (r : Result (List A × List ℕ) BinaryFault) (xs : List A) (rest : List ℕ) → TellsAll IsSo (Some hold) r → r ≡ Ok (xs, rest) → IsTrue hold ↔ All IsSo xs
  told_all hold r xs rest told e = rw e at told

  pub told_at : (octets : List ℕ) (place : Option ℕ) (at n : ℕ) (mid : List ℕ) (hold : Option Bool) → place ≡ Some at → read u32 (drop at octets) ≡ Ok (n, mid) →
      TellsAll IsSo hold (read (counted n (one_more item) []) mid) → IsThere (vector item) octets place → IfSome hold (λ h. IsTrue h ↔ All IsSo (values_at (vector item) octets place))
  told_at octets (Some k) at n mid (Some hold) is e told there =
      let i = items_at octets k n mid (same_place k at n mid is e) there in
      told_all hold (read (counted n (one_more item) []) mid) _ i.0 told i.1
    where
      same_place : (k at n : ℕ) (mid : List ℕ) → Some k ≡ Some at → read u32 (drop at octets) ≡ Ok (n, mid) → read u32 (drop k octets) ≡ Ok (n, mid)
      same_place k at n mid is e = let one : k ≡ at = cc in ap (λ (j : ℕ). read u32 (drop j octets)) one ∙ e
  told_at octets (Some k) at n mid None is e told there = tt
  told_at octets None at n mid hold is e told there = absurd cc

  -- where they stand nowhere there are none
  pub none_at : (octets : List ℕ) (place : Option ℕ) → place ≡ None → values_at (vector item) octets place ≡ []
  unfolding values_at
  none_at octets None is = refl
  none_at octets (Some at) is = absurd cc

  pub all_of_none : (octets : List ℕ) (place : Option ℕ) → place ≡ None → All IsSo (values_at (vector item) octets place)
  all_of_none octets place is = rw (none_at octets place is) (All-from_recursion IsSo [] tt)

-- all are so, and no more than one with those before
pub few_told : {A : Type 0} (IsSo : A → Type 0) (hold : Option Bool) (xs : List A) (before : ℕ) → before + length xs ≤ 1 → IfSome hold (λ h. IsTrue h ↔ All IsSo xs) →
    IfSome hold (λ h. IsTrue h ↔ (All IsSo xs × (before + length xs ≤ 1)))
few_told IsSo (Some h) xs before few told = (λ so. (told.0 so, few), λ both. told.1 both.0)
few_told IsSo None xs before few told = tt
