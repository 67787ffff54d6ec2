-- What the worked cases of texts share.
use Rattle.std.proofs.Common.{◌<◌, ℕ, List, [], ◌∷◌}
use Rattle.std.specs.List.{AllByRecursion}
use Rattle.std.proofs.lemmas.Str.{IsUtf8-from_ascii}
use Rattle.std.specs.Str.{IsUtf8, IsAscii}
use Rattle.std.proofs.lemmas.Str.Ascii.{IsAscii-nil, IsAscii-cons}

all_ascii : (bs : List ℕ) → AllByRecursion (λ b. b < 128) bs → IsAscii bs
all_ascii [] h = IsAscii-nil
all_ascii (b ∷ bs) h = IsAscii-cons b bs h.0 (all_ascii bs h.1)

pub ascii : (bs : List ℕ) → AllByRecursion (λ b. b < 128) bs → IsUtf8 bs
ascii bs h = IsUtf8-from_ascii bs (all_ascii bs h)
