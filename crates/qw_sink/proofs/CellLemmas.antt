-- What is known of a cell that can be read.
use Rattle.std.proofs.Common.{◌≡◌, ℕ, ◌+◌, ◌≤◌, nat_le, Bool, true, false, List, length, take, drop, IsSome, refl}
use Rattle.std.specs.Prelude.{◌&&◌, IsUtf8}
use Rattle.std.specs.Str.{is_utf8}
use Rattle.std.proofs.lemmas.Str.{IsUtf8-from_is_utf8}
use Rattle.std.proofs.lemmas.Bool.{and_parts, leb-true, false≢true}
use Rattle.qw_map.specs.Areas.{Area, are_covered}
use Rattle.qw_map.specs.Layout.{if_so, text_cell}

-- where a test gives a value it holds
so : {T : Type 0} (test : Bool) (value : T) → IsSome (if_so test value) → test ≡ true
so true value there = refl
so false value there = absurd (false≢true there)

-- the octets of a text lie in the memory, and are UTF-8
pub text-is : (texts : List Area) (memory : List ℕ) (address size : ℕ) → IsSome (text_cell texts memory address size) →
    (address + size ≤ length memory) × IsUtf8 (take size (drop address memory))
text-is texts memory address size there =
    let octets = take size (drop address memory) in
    let all = and_parts (nat_le (address + size) (length memory)) (are_covered texts address size && is_utf8 octets) (so _ _ there) in
    let rest = and_parts (are_covered texts address size) (is_utf8 octets) all.1 in
    (leb-true (address + size) (length memory) all.0, IsUtf8-from_is_utf8 octets rest.1)
