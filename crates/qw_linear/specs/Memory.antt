-- A memory is its octets; numbers in it are little endian (WebAssembly Core Specification 1.0, 4.2.8 and
-- 4.3.1, "Storage").
use Rattle.std.specs.Prelude.{◌≡◌, ℕ, Bool, zero, suc, ◌+◌, ◌*◌, ◌/◌, ◌%◌, ◌<◌, nat_le, if◌then◌else◌, List, ◌++◌, length, take, drop, replicate, All, Option, Some, None, slice_index, slice_set}

-- how many octets a page has, and how many pages a memory has at most (4.2.8 and 3.2.4; one page fewer than there, so that
-- a memory's size in octets is a number of 32 bits)
abbrev pub page : ℕ
page = 65536

abbrev pub most_pages : ℕ
most_pages = 65535

-- the number that so many octets from a place on stand for
unfoldable pub number_at : List ℕ → ℕ → ℕ → ℕ
number_at octets at zero = 0
number_at octets at (suc width) = slice_index octets at + 256 * number_at octets (at + 1) width

-- the memory with the low octets of a number at so many places from one on
unfoldable pub with_number : List ℕ → ℕ → ℕ → ℕ → List ℕ
with_number octets at zero number = octets
with_number octets at (suc width) number = with_number (slice_set octets at (number % 256)) (at + 1) width (number / 256)

-- whether so many octets from a place on lie in the memory
abbrev pub has_place : List ℕ → (at width : ℕ) → Bool
has_place octets at width = nat_le (at + width) (length octets)

-- what a load reads: the number, where its octets lie in the memory (4.4.4)
abbrev pub loaded : List ℕ → (at width : ℕ) → Option ℕ
loaded octets at width = if has_place octets at width then Some (number_at octets at width) else None

-- what a store leaves: the number is put where its octets lie in the memory, and else nothing changes (4.4.4)
abbrev pub stored : List ℕ → (at width number : ℕ) → List ℕ
stored octets at width number = if has_place octets at width then with_number octets at width number else octets

-- the memory with so many pages more, whose octets are 0 (4.4.4, memory.grow)
unfoldable pub grown_by : ℕ → List ℕ → List ℕ
grown_by pages octets = octets ++ replicate (pages * page) 0

-- the memory with the octets of so many pages from this one on 0
unfoldable pub cleared : (first pages : ℕ) → List ℕ → List ℕ
cleared first pages octets = take (first * page) octets ++ (replicate (pages * page) 0 ++ drop ((first + pages) * page) octets)

-- how many whole pages there are
abbrev pub pages_of : List ℕ → ℕ
pages_of octets = length octets / page

-- each number is an octet
abbrev pub AreOctets : List ℕ → Type 0
AreOctets octets = All (λ octet. octet < 256) octets

-- the octets below an address are the same in two memories
abbrev pub SameBelow : List ℕ → List ℕ → ℕ → Type 0
SameBelow before after address = (k : ℕ) → k < address → slice_index after k ≡ slice_index before k
