-- A reader of records, from one record to the next.
use Rattle.std.proofs.Common.{Bor, List, ℕ, ◌≡◌, ◌∙◌, ◌∷◌, ◌++◌, [], Bool, true, false, Some, None, Result, Ok, Err, inl, inr, refl, sym}
use Rattle.std.specs.Prelude.{IfOk, OnOk}
use Rattle.std.specs.Bool.{MatchBool}
use Rattle.std.proofs.lemmas.Bool.{false≢true}
use Rattle.csv.specs.Reading.{AreRecords, ExplainsRead, ReadRecord, Reached, Ready, default_config, source_of, stops_reader}
use Rattle.csv.specs.declared.error.ErrorKind.{ErrorKind}
use Rattle.csv.specs.declared.error.ErrorKind.TheVariants as kind
use Rattle.csv.specs.declared.parser.State.TheVariants.{StartRecord}
use Rattle.csv.specs.declared.reader.Reader.{Reader}
use Rattle.csv.specs.declared.reader.Trim.TheVariants as trim
use Rattle.csv.proofs.ReadFacts.{rows-end, rows-more}
use Rattle.qw_csv.specs.Inner.Loading.{HasRead}

-- a read takes the reader on by a record, or shows that there is none
pub read_on : (a b : Reader (Bor (List ℕ))) (found : Bool) (fields : List (List ℕ)) (text : List ℕ) (records : List (List (List ℕ)))
    → HasRead a text records → ReadRecord (λ (s : Bor (List ℕ)). Some s.now) a b found fields → b.first ≡ true → b.flexible ≡ a.flexible
    → MatchBool found (HasRead b text (records ++ fields ∷ [])) (AreRecords default_config StartRecord text records)
read_on a b true fields text records h r first same =
    let more = rows-more (λ (s : Bor (List ℕ)). Some s.now) a b fields default_config StartRecord text h.rest records h.config h.source h.reached r in
    record { ready = inl first; untrimmed = r.3 ∙ h.untrimmed; flexible = same ∙ h.flexible; config = r.2 ∙ h.config; rest = more.0; source = more.1; reached = more.2 }
read_on a b false fields text records h r first same =
    (a.state, h.rest, h.reached, rows-end (λ (s : Bor (List ℕ)). Some s.now) a b fields default_config h.rest h.config h.source r)

-- a new reader has given no record
pub none_read : (a : Reader (Bor (List ℕ))) (text : List ℕ) → a.trim ≡ trim.None → a.flexible ≡ true → a.has_headers ≡ false → a.headers ≡ None → a.config ≡ default_config
    → source_of (λ (s : Bor (List ℕ)). Some s.now) a ≡ Some text → a.state ≡ StartRecord → HasRead a text []
unfolding Reached
none_read a text untrimmed flexible bare none config source state =
    record { ready = inr (inr (bare, none)); untrimmed = untrimmed; flexible = flexible; config = config; rest = text; source = source; reached = (sym state, refl) }

-- a read of octets that takes records of any number of fields fails only where it stops: in memory, or in the octets themselves
pub stops : (a b : Reader (Bor (List ℕ))) (k : ErrorKind) → a.flexible ≡ true → ExplainsRead (λ (s : Bor (List ℕ)). Some s.now) a b false k → stops_reader k ≡ true
stops a b (kind.Io e) flexible why = refl
stops a b kind.OutOfMemory flexible why = refl
stops a b (kind.UnequalLengths at expected len) flexible why = absurd (false≢true (sym why.0 ∙ flexible))
stops a b (kind.Utf8 at e) flexible why = absurd (false≢true why.0)
stops a b (kind.Serialize e) flexible why = absurd why
stops a b (kind.Deserialize at e) flexible why = absurd why

-- both, of the result of a read
pub reads : {E : Type 0} (a b : Reader (Bor (List ℕ))) (r : Result Bool E) (fields : List (List ℕ))
    → IfOk r (λ found. a.trim ≡ trim.None → Ready a → ReadRecord (λ (s : Bor (List ℕ)). Some s.now) a b found fields)
    → (a.trim ≡ trim.None → OnOk r (b.first ≡ true)) → OnOk r (b.flexible ≡ a.flexible)
    → IfOk r (λ found. (text : List ℕ) (records : List (List (List ℕ))) → HasRead a text records → MatchBool found (HasRead b text (records ++ fields ∷ [])) (AreRecords default_config StartRecord text records))
reads a b (Ok found) fields read first same = λ text records h. read_on a b found fields text records h (read h.untrimmed h.ready) (first h.untrimmed) same
reads a b (Err e) fields read first same = tt
