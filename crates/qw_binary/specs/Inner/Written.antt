-- Mirrors `encode`: what the sections that were written hold.
use Rattle.std.specs.Prelude.{◌≡◌, ℕ, ◌≤◌, ◌==◌, false, List, Ok}
use Rattle.qw_octet_grammar.specs.Grammar.{octet, Spells}
use Rattle.qw_octet_grammar.specs.Writing.{Puts}
use Rattle.qw_octet_grammar.specs.Inner.Awaiting.{AwaitsAll}
use Rattle.qw_binary.specs.Contents.{Contents}
use Rattle.qw_binary.specs.Sections.{Sections, no_sections, section_by, section, content}
use Rattle.qw_binary.specs.Modules.{header}

-- behind the header, sections up to this id, which hold this
pub record Written (last : ℕ) (indices : List ℕ) (contents : Contents) (now : List ℕ) : Type 0 where
  pub sections : Sections
  pub up_to : sections.last ≤ last
  pub has_indices : sections.type_indices ≡ indices
  pub has_contents : sections.contents ≡ contents
  pub behind : AwaitsAll section no_sections sections header now

-- a section was put, which its content spells
unfoldable pub PutsSection : (id : ℕ) → (text old new : List ℕ) → Type 0
PutsSection id text old new =
    (s t : Sections) → (id == 0) ≡ false → section_by s.last id ≡ Ok id → Spells (content s id) t text → Puts (octet (section s)) t old new
