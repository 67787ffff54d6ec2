-- Reading one token after another.
use Rattle.std.proofs.Common.{◌≡◌, ℕ, ◌<◌, ◌≤◌, List, [], ◌∷◌, ◌++◌, length, take, refl, sym, ap, subst, arith, inl, inr}
use Rattle.std.specs.Str.{bytes_eq}
use Rattle.std.proofs.lemmas.Bool.{cases_Bool}
use Rattle.std.proofs.lemmas.List.{length-append, length-drop}
use Rattle.qw_token.specs.Token.{Lexeme, IsAfterGap, IsNext, after_mark, Begins, Reads, AreTokens, StopsAt}
use Rattle.qw_token.proofs.TokenGap.{AfterGap-shorter, AfterGap-unique}
use Rattle.qw_token.proofs.TokenEnds.{Begins-unique}
use Rattle.qw_token.proofs.TokenLongest.{not_empty}

-- what the loop keeps: the tokens so far, and that the rest is behind them
pub record HasRead (text : List ℕ) (ts : List Lexeme) (rest : List ℕ) : Type 0 where
  pub reads : Reads (after_mark text) ts rest
  pub shorter : length rest ≤ length text

Reads-push : (text : List ℕ) (ts : List Lexeme) (t : Lexeme) (rest after next : List ℕ) → Reads text ts rest → Begins rest t after → IsAfterGap after next → Reads text (ts ++ t ∷ []) next
Reads-push text [] t rest after next r b gap = (after, record { start = rest; gap = r; token = b }, gap)
Reads-push text (u ∷ ts) t rest after next r b gap = (r.0, r.1, Reads-push r.0 ts t rest after next r.2 b gap)

after_mark-shorter : (text : List ℕ) → length (after_mark text) ≤ length text
after_mark-shorter text =
    elim (cases_Bool (bytes_eq (take 3 text) (0xEF ∷ 0xBB ∷ 0xBF ∷ []))) [
      | inl e ↦ rw e (omega (arith, length-drop 3 text))
      | inr e ↦ rw e (omega arith)
    ]

pub HasRead-none : (text rest : List ℕ) → IsAfterGap (after_mark text) rest → HasRead text [] rest
HasRead-none text rest gap = record { reads = gap; shorter = omega (arith, AfterGap-shorter (after_mark text) rest gap, after_mark-shorter text) }

pub HasRead-push : (text : List ℕ) (ts : List Lexeme) (t : Lexeme) (rest after next : List ℕ) → HasRead text ts rest → Begins rest t after → IsAfterGap after next → HasRead text (ts ++ t ∷ []) next
HasRead-push text ts t rest after next h b gap = record {
  reads = Reads-push (after_mark text) ts t rest after next h.reads b gap;
  shorter = omega (arith, h.shorter, AfterGap-shorter after next gap, ap length b.parts, length-append t.octets after);
}

-- what follows a token is shorter than the text that it begins
pub Begins-shorter : (text : List ℕ) (t : Lexeme) (rest : List ℕ) → Begins text t rest → length rest < length text
Begins-shorter text t rest b = omega (arith, not_empty t.kind t.octets b.form, ap length b.parts, length-append t.octets rest)

-- ---- a text has one reading

abbrev IsStuck : List ℕ → Type 0
IsStuck rest = (t : Lexeme) (after : List ℕ) → Begins rest t after → ⊥

nothing_begins : IsStuck []
nothing_begins t after b = let short = Begins-shorter [] t after b in absurd (omega (arith, short))

-- where a token begins behind a gap, a reading that ends there isn't stuck
not_stuck : (text : List ℕ) (t : Lexeme) (r after : List ℕ) → IsAfterGap text r → IsNext text t after → IsStuck r → ⊥
not_stuck text t r after gap next stuck = stuck t after (subst (λ x. Begins x t after) (AfterGap-unique text next.start r next.gap gap) next.token)

IsNext-unique : (text : List ℕ) (t u : Lexeme) (r s : List ℕ) → IsNext text t r → IsNext text u s → (t ≡ u) × (r ≡ s)
IsNext-unique text t u r s p q =
    let same = AfterGap-unique text q.start p.start q.gap p.gap in
    Begins-unique p.start t u r s p.token (subst (λ x. Begins x u s) same q.token)

Reads-unique : (text : List ℕ) (ts us : List Lexeme) (r s : List ℕ) → Reads text ts r → Reads text us s → IsStuck r → IsStuck s → (ts ≡ us) × (r ≡ s)
Reads-unique text [] [] r s p q stuck stuck' = (refl, AfterGap-unique text r s p q)
Reads-unique text [] (u ∷ us) r s p q stuck stuck' = absurd (not_stuck text u r q.0 p q.1 stuck)
Reads-unique text (t ∷ ts) [] r s p q stuck stuck' = absurd (not_stuck text t s p.0 q p.1 stuck')
Reads-unique text (t ∷ ts) (u ∷ us) r s p q stuck stuck' =
    let first = IsNext-unique text t u p.0 q.0 p.1 q.1 in
    let more = Reads-unique p.0 ts us r s p.2 (subst (λ x. Reads x us s) (sym first.1) q.2) stuck stuck' in
    ((λ i. first.0 i ∷ more.0 i), more.1)

pub AreTokens-unique : (text : List ℕ) (ts us : List Lexeme) → AreTokens text ts → AreTokens text us → ts ≡ us
AreTokens-unique text ts us a b = (Reads-unique (after_mark text) ts us [] [] a.reads b.reads nothing_begins nothing_begins).0

pub StopsAt-unique : (text : List ℕ) (m n : ℕ) → StopsAt text m → StopsAt text n → m ≡ n
StopsAt-unique text m n a b =
    let same = (Reads-unique (after_mark text) a.before b.before a.rest b.rest a.reads b.reads a.no_token b.no_token).1 in
    omega (arith, a.position, b.position, ap length same)

pub AreTokens-no_stop : (text : List ℕ) (ts : List Lexeme) (n : ℕ) → AreTokens text ts → StopsAt text n → ⊥
AreTokens-no_stop text ts n a b =
    b.more (sym (Reads-unique (after_mark text) ts b.before [] b.rest a.reads b.reads nothing_begins b.no_token).1)
