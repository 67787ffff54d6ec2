-- Mirrors `place::Place`: the state of the reader's machine after a text that isn't whole yet.
use Rattle.std.specs.Prelude.{◌≡◌, ◌≢◌, ◌<◌, ℕ, List, [], ◌∷◌, length, slice_index, Option, Some, None}
use Rattle.csv.specs.Machine.{step}
use Rattle.csv.specs.Reading.{default_config}
use Rattle.csv.specs.declared.parser.State.{State}
use Rattle.csv.specs.declared.parser.State.TheVariants as st
use Rattle.qw_csv.specs.declared.place.Place.{Place}
use Rattle.qw_csv.specs.declared.place.Place.TheVariants.{Fresh, Within, Quoted, Unquoted}

-- the state of the machine after a text
unfoldable pub after : State → List ℕ → State
after state [] = state
after state (octet ∷ octets) = after (step default_config state octet).0 octets

-- the place that a state is
abbrev pub IsAt : State → Place → Type 0
IsAt st.StartRecord place = place ≡ Fresh
IsAt st.StartField place = place ≡ Fresh
IsAt st.AfterCr place = place ≡ Fresh
IsAt st.InField place = place ≡ Within
IsAt st.InQuoted place = place ≡ Quoted
IsAt st.AfterQuote place = place ≡ Unquoted
IsAt st.InEscape place = ⊥
IsAt st.InComment place = ⊥

-- the octets that wait to be read stand behind a line's end, and end at this place
abbrev pub IsPlaced : Option Place → List ℕ → Type 0
IsPlaced None waiting = Unit {0}
IsPlaced (Some place) waiting = ((line : List ℕ) × (waiting ≡ 10 ∷ line)) × IsAt (after st.StartRecord waiting) place

-- no octet of a text is a quote
abbrev pub HasNoQuote : List ℕ → Type 0
HasNoQuote text = (at : ℕ) → at < length text → slice_index text at ≢ 34
