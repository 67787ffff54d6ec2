-- What a memory keeps that grows and is written to, column by column.
use Rattle.std.proofs.Common.{◌≡◌, ◌≤◌, ◌<◌, ◌∙◌, refl, sym, ⊎_elim, ℕ, length, get_or, arith}
use Rattle.std.proofs.lemmas.Bool.{cases_lt}
use Rattle.std.proofs.lemmas.List.{get_or_past}
use Rattle.qw_linear.specs.Linear.{Octets}
use Rattle.qw_linear.specs.Memory.{grown_by}
use Rattle.qw_linear.proofs.GrowthFacts.{AreOctets-grown_by, grown_by-above, grown_by-below, length-grown_by}
use Rattle.qw_columns.specs.Inner.Writing.{GrowsFrom, KeepsBelow}

pub grows_then : (a b c : Octets) (at higher : ℕ) → at ≤ higher → GrowsFrom a b at → GrowsFrom b c higher → GrowsFrom a c at
grows_then a b c at higher le first next = record {
  below = λ k lt. next.below k (omega arith) ∙ first.below k lt;
  octets = λ are. next.octets (first.octets are);
  len = omega (arith, first.len, next.len);
  reserved = next.reserved ∙ first.reserved;
}

pub keeps_grows : (a b : Octets) (at : ℕ) → KeepsBelow a b at → GrowsFrom a b at
keeps_grows a b at keeps = record { below = keeps.below; octets = keeps.octets; len = omega (arith, keeps.len); reserved = keeps.reserved }

-- pages more, whose octets are 0, as what lies past the end reads
pub grows_by : (m : Octets) (pages at : ℕ) → GrowsFrom m (record { octets = grown_by pages m.octets; reserved = m.reserved }) at
grows_by m pages at = record {
  below = λ k lt. same k;
  octets = λ are. AreOctets-grown_by pages m.octets are;
  len = omega (arith, length-grown_by pages m.octets);
  reserved = refl;
}
  where
    same : (k : ℕ) → get_or (grown_by pages m.octets) k 0 ≡ get_or m.octets k 0
    same k = ⊎_elim
        (λ (inside : k < length m.octets). grown_by-below pages m.octets k inside)
        (λ (past : length m.octets ≤ k). grown_by-above pages m.octets k past ∙ sym (get_or_past m.octets k 0 past))
        (cases_lt k (length m.octets))
