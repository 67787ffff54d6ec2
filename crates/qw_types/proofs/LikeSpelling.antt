-- The octets of a character: the first, and those that continue it.
use Rattle.std.proofs.Common.{◌≡◌, ℕ, ◌+◌, ◌/◌, ◌<◌, ◌≤◌, ◌⊎◌, inl, inr, true, false, List, [], ◌∷◌, ◌++◌, refl, sym, ap, ◌∙◌, ⊎_elim, arith}
use Rattle.std.proofs.Math.Utf8.{encode, encodes, next}
use Rattle.std.proofs.lemmas.Bool.{lt-ltb, le-ltb, eq-eqb, ne_eqb, cases_lt}
use Rattle.std.proofs.lemmas.Str.{encode_ascii}
use Rattle.qw_types.specs.Like.{continues, behind}
use Rattle.qw_types.proofs.LikeEnds.{behind_inner, behind_outer}

abbrev pub AreInner : List ℕ → Type 0
AreInner [] = Unit {0}
AreInner (x ∷ xs) = (continues x ≡ true) × AreInner xs

pub record Spells (c : ℕ) : Type 0 where
  pub lead : ℕ
  pub more : List ℕ
  pub spelt : encode c ≡ lead ∷ more
  pub outer : continues lead ≡ false
  pub inner : AreInner more
  pub place : (lead ≡ c) ⊎ (128 ≤ lead)

two : (c : ℕ) → 128 ≤ c → c < 2048 → encode c ≡ (192 + c / 64) ∷ next c ∷ []
unfolding encode
two c l h = rw (le-ltb c 128 l, lt-ltb c 2048 h) refl

three : (c : ℕ) → 2048 ≤ c → c < 65536 → encode c ≡ (224 + c / 4096) ∷ next (c / 64) ∷ next c ∷ []
unfolding encode
three c l h = rw (le-ltb c 128 (omega arith), le-ltb c 2048 l, lt-ltb c 65536 h) refl

four : (c : ℕ) → 65536 ≤ c → encode c ≡ (240 + c / 262144) ∷ next (c / 4096) ∷ next (c / 64) ∷ next c ∷ []
unfolding encode
four c l = rw (le-ltb c 128 (omega arith), le-ltb c 2048 (omega arith), le-ltb c 65536 l) refl

next_inner : (x : ℕ) → continues (next x) ≡ true
next_inner x = eq-eqb (next x / 64) 2 (omega arith)

low_outer : (x : ℕ) → x < 128 → continues x ≡ false
low_outer x low = ne_eqb (x / 64) 2 (λ e. omega arith)

high_outer : (x : ℕ) → 192 ≤ x → continues x ≡ false
high_outer x high = ne_eqb (x / 64) 2 (λ e. omega arith)

of_one : (c : ℕ) → c < 128 → Spells c
of_one c low = record { lead = c; more = []; spelt = encode_ascii c low; outer = low_outer c low; inner = tt; place = inl refl }

of_two : (c : ℕ) → 128 ≤ c → c < 2048 → Spells c
of_two c high low = record {
  lead = 192 + c / 64;
  more = next c ∷ [];
  spelt = two c high low;
  outer = high_outer (192 + c / 64) (omega arith);
  inner = (next_inner c, tt);
  place = inr (omega arith);
}

of_three : (c : ℕ) → 2048 ≤ c → c < 65536 → Spells c
of_three c high low = record {
  lead = 224 + c / 4096;
  more = next (c / 64) ∷ next c ∷ [];
  spelt = three c high low;
  outer = high_outer (224 + c / 4096) (omega arith);
  inner = (next_inner (c / 64), (next_inner c, tt));
  place = inr (omega arith);
}

of_four : (c : ℕ) → 65536 ≤ c → Spells c
of_four c high = record {
  lead = 240 + c / 262144;
  more = next (c / 4096) ∷ next (c / 64) ∷ next c ∷ [];
  spelt = four c high;
  outer = high_outer (240 + c / 262144) (omega arith);
  inner = (next_inner (c / 4096), (next_inner (c / 64), (next_inner c, tt)));
  place = inr (omega arith);
}

pub spells : (c : ℕ) → Spells c
spells c = ⊎_elim (of_one c) (λ past. ⊎_elim (of_two c past) (λ past2. ⊎_elim (of_three c past2) (of_four c) (cases_lt c 65536)) (cases_lt c 2048)) (cases_lt c 128)

-- ---- behind a character
pub behind_more : (xs rest : List ℕ) → AreInner xs → behind (xs ++ rest) ≡ behind rest
behind_more [] rest inner = refl
behind_more (x ∷ xs) rest inner = behind_inner x (xs ++ rest) inner.0 ∙ behind_more xs rest inner.1

-- octets of a text as its characters begin with one
pub encodes_cons : (c : ℕ) (cs : List ℕ) (w : Spells c) → encodes (c ∷ cs) ≡ w.lead ∷ (w.more ++ encodes cs)
encodes_cons c cs w = ap (λ z. z ++ encodes cs) w.spelt

pub behind_whole : (cs : List ℕ) → behind (encodes cs) ≡ encodes cs
behind_whole [] = refl
behind_whole (c ∷ cs) = let w = spells c in
    ap behind (encodes_cons c cs w) ∙ behind_outer w.lead (w.more ++ encodes cs) w.outer ∙ sym (encodes_cons c cs w)

pub behind_char : (xs cs : List ℕ) → AreInner xs → behind (xs ++ encodes cs) ≡ encodes cs
behind_char xs cs inner = behind_more xs (encodes cs) inner ∙ behind_whole cs
