-- What pipelines put into memory, told of the tables alone: whatever the order of entries, there are so many.
use Rattle.std.proofs.Common.{◌≡◌, ◌∙◌, ℕ, suc, ◌+◌, ◌*◌, List, [], ◌∷◌, ◌++◌, length, sym, ap, subst, append_assoc, append-nil, arith}
use Rattle.std.proofs.Math.Nat.{add-mul}
use Rattle.std.specs.List.Sorted.{IsPermutation}
use Rattle.std.proofs.lemmas.List.Sorted.{IsPermutation-sym, IsPermutation-trans, length_permutation}
use Rattle.qw_types.specs.declared.value.Val.{Val}
use Rattle.qw_physical.specs.Courses.{AreBuilt, pipeline_fed}
use Rattle.qw_physical.specs.Held.{held, sink_octets}
use Rattle.qw_physical.specs.Physical.{Pipeline}
use Rattle.qw_physical.proofs.Permuted.{ArePermuted, built_in_order, pipeline_fed_permuted}
use Rattle.qw_compile.proofs.Budgets.{spent}

permuted_more : (built others : List (List (List Val))) (x y : List (List Val)) → ArePermuted built others → IsPermutation x y → ArePermuted (built ++ x ∷ []) (others ++ y ∷ [])
permuted_more [] [] x y h p = (p, tt)
permuted_more [] (o ∷ others) x y h p = absurd h
permuted_more (b ∷ built) [] x y h p = absurd h
permuted_more (b ∷ built) (o ∷ others) x y h p = (h.0, permuted_more built others x y h.1 p)

module _ (u : ℕ) (tables : List (List (List Val))) where
  fed_long : (p : Pipeline) (built others : List (List (List Val))) → ArePermuted built others → length (pipeline_fed tables built p).rows ≡ length (pipeline_fed tables others p).rows
  fed_long p built others same = sym (length_permutation (pipeline_fed tables built p).rows (pipeline_fed tables others p).rows (pipeline_fed_permuted built others same tables p).0)

  next : (p : Pipeline) (built others : List (List (List Val))) (entries : List (List Val)) → ArePermuted built others → IsPermutation (pipeline_fed tables built p).rows entries → IsPermutation entries (pipeline_fed tables others p).rows
  next p built others entries same h =
      IsPermutation-trans entries (pipeline_fed tables built p).rows (pipeline_fed tables others p).rows (IsPermutation-sym (pipeline_fed tables built p).rows entries h) (pipeline_fed_permuted built others same tables p).0

  -- with the pipeline behind those that ran
  pub spent_next : (front : List Pipeline) (p : Pipeline) (back : List Pipeline) (built others more : List (List (List Val))) → ArePermuted built others → AreBuilt tables built front more
      → spent u (front ++ p ∷ back) (built_in_order tables others (front ++ p ∷ back)) (suc (length front))
      ≡ spent u (front ++ p ∷ back) (built_in_order tables others (front ++ p ∷ back)) (length front) + (u + sink_octets p.sink (length (pipeline_fed tables (built ++ more) p).rows))
  spent_next [] p back built others [] same h =
      let long : length (pipeline_fed tables (built ++ []) p).rows ≡ length (pipeline_fed tables others p).rows = ap (λ (b : List (List (List Val))). length (pipeline_fed tables b p).rows) (append-nil built) ∙ fed_long p built others same in
      subst (λ (k : ℕ). (u + sink_octets p.sink k) + 0 ≡ 0 + (u + sink_octets p.sink (length (pipeline_fed tables (built ++ []) p).rows))) long (turned (u + sink_octets p.sink (length (pipeline_fed tables (built ++ []) p).rows)))
    where
      turned : (a : ℕ) → a + 0 ≡ 0 + a
      turned a = omega arith
  spent_next [] p back built others (e ∷ more) same h = absurd h
  spent_next (q ∷ front) p back built others [] same h = absurd h
  spent_next (q ∷ front) p back built others (e ∷ more) same h =
      let mid : List (List (List Val)) = others ++ (pipeline_fed tables others q).rows ∷ [] in
      let rest = spent_next front p back (built ++ e ∷ []) mid more (permuted_more built others e (pipeline_fed tables others q).rows same (next q built others e same h.1)) h.2 in
      let whole : (built ++ e ∷ []) ++ more ≡ built ++ e ∷ more = append_assoc built (e ∷ []) more in
      let there : spent u (front ++ p ∷ back) (built_in_order tables mid (front ++ p ∷ back)) (suc (length front))
      ≡ spent u (front ++ p ∷ back) (built_in_order tables mid (front ++ p ∷ back)) (length front) + (u + sink_octets p.sink (length (pipeline_fed tables (built ++ e ∷ more) p).rows)) =
      subst (λ (b : List (List (List Val))). spent u (front ++ p ∷ back) (built_in_order tables mid (front ++ p ∷ back)) (suc (length front))
      ≡ spent u (front ++ p ∷ back) (built_in_order tables mid (front ++ p ∷ back)) (length front) + (u + sink_octets p.sink (length (pipeline_fed tables b p).rows))) whole rest in
      summed (u + sink_octets q.sink (length (pipeline_fed tables others q).rows)) (spent u (front ++ p ∷ back) (built_in_order tables mid (front ++ p ∷ back)) (length front)) (u + sink_octets p.sink (length (pipeline_fed tables (built ++ e ∷ more) p).rows))
      (spent u (front ++ p ∷ back) (built_in_order tables mid (front ++ p ∷ back)) (suc (length front))) there
    where
      summed : (a b c d : ℕ) → d ≡ b + c → a + d ≡ (a + b) + c
      summed a b c d g = omega (arith, g)

  -- as much as is held
  pub spent_front : (front : List Pipeline) (back rest : List Pipeline) (p : Pipeline) (built others more : List (List (List Val))) → ArePermuted built others → AreBuilt tables built front more
      → spent u (front ++ back) (built_in_order tables others (front ++ back)) (length front) + sink_octets p.sink (length (pipeline_fed tables (built ++ more) p).rows) ≡ length front * u + held tables built (front ++ p ∷ rest) more
  spent_front [] back rest p built others [] same h =
      let long : sink_octets p.sink (length (pipeline_fed tables (built ++ []) p).rows) ≡ sink_octets p.sink (length (pipeline_fed tables built p).rows) = ap (λ (b : List (List (List Val))). sink_octets p.sink (length (pipeline_fed tables b p).rows)) (append-nil built) in
      based (sink_octets p.sink (length (pipeline_fed tables (built ++ []) p).rows)) (sink_octets p.sink (length (pipeline_fed tables built p).rows)) long
    where
      based : (x y : ℕ) → x ≡ y → 0 + x ≡ 0 * u + y
      based x y e = omega (arith, e)
  spent_front [] back rest p built others (e ∷ more) same h = absurd h
  spent_front (q ∷ front) back rest p built others [] same h = absurd h
  spent_front (q ∷ front) back rest p built others (e ∷ more) same h =
      let mid : List (List (List Val)) = others ++ (pipeline_fed tables others q).rows ∷ [] in
      let same_entries = next q built others e same h.1 in
      let more_is = spent_front front back rest p (built ++ e ∷ []) mid more (permuted_more built others e (pipeline_fed tables others q).rows same same_entries) h.2 in
      let whole : (built ++ e ∷ []) ++ more ≡ built ++ e ∷ more = append_assoc built (e ∷ []) more in
      let there : spent u (front ++ back) (built_in_order tables mid (front ++ back)) (length front) + sink_octets p.sink (length (pipeline_fed tables (built ++ e ∷ more) p).rows) ≡ length front * u + held tables (built ++ e ∷ []) (front ++ p ∷ rest) more =
      subst (λ (b : List (List (List Val))). spent u (front ++ back) (built_in_order tables mid (front ++ back)) (length front) + sink_octets p.sink (length (pipeline_fed tables b p).rows) ≡ length front * u + held tables (built ++ e ∷ []) (front ++ p ∷ rest) more) whole more_is in
      let long : sink_octets q.sink (length (pipeline_fed tables others q).rows) ≡ sink_octets q.sink (length e) = ap (sink_octets q.sink) (length_permutation e (pipeline_fed tables others q).rows same_entries) in
      summed u (sink_octets q.sink (length (pipeline_fed tables others q).rows)) (spent u (front ++ back) (built_in_order tables mid (front ++ back)) (length front)) (sink_octets p.sink (length (pipeline_fed tables (built ++ e ∷ more) p).rows))
      (length front * u) (held tables (built ++ e ∷ []) (front ++ p ∷ rest) more) (sink_octets q.sink (length e)) (suc (length front) * u) (one_more (length front)) long there
    where
      one_more : (n : ℕ) → suc n * u ≡ u + n * u
      one_more n = omega (arith, add-mul 1 n u)

      summed : (v o s r m k o' w : ℕ) → w ≡ v + m → o ≡ o' → s + r ≡ m + k → ((v + o) + s) + r ≡ w + (o' + k)
      summed v o s r m k o' w e l g = omega (arith, e, l, g)
