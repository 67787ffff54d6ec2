-- How the parts of a report are put together.
use Rattle.std.proofs.Common.{◌≡◌, ℕ, suc, ◌+◌, Bool, true, false, List, [], ◌∷◌, ◌++◌, Option, refl, sym, subst, length, ap, ◌∙◌, arith, append_assoc}
use Rattle.std.specs.Prelude.{◌||◌, if◌then◌else◌}
use Rattle.std.specs.List.{list_any}
use Rattle.std.proofs.lemmas.List.{append-nil}
use Rattle.qw_map.specs.Turns.{End}
use Rattle.qw_bench.specs.Bench.{end_in}
use Rattle.qw_bench.specs.Standing.{Standing}
use Rattle.qw_top.specs.Delivered.{counts_line, ends_below, is_exception, is_pages, is_steps, status_of_ends}
use Rattle.qw_top.specs.Top.{Asked}
use Rattle.qw_top.specs.Inner.Reports.{AreBlocks, IsBlock, is_page_limit, is_raised, is_step_limit, status_with}
use Rattle.qw_top.specs.declared.status.Status.{Status}
use Rattle.qw_top.specs.declared.status.Status.TheVariants.{Done, Raised, PageLimitMet, StepLimitMet}

-- ---- blocks

pub AreBlocks-more : (counts : Bool) (queries : List Asked) (b : Standing) (k : ℕ) (asked : Asked) (text block : List ℕ) (n : ℕ) → AreBlocks counts queries b k text → n ≡ k + length queries →
    IsBlock asked b n (end_in b.shared n) block → AreBlocks counts (queries ++ asked ∷ []) b k ((text ++ block) ++ counts_line counts b n)
AreBlocks-more counts [] b k asked text block n are n_is here =
    let same : n ≡ k = omega (arith, n_is) in (
      block,
      [],
      ap (λ (t : List ℕ). (t ++ block) ++ counts_line counts b n) are ∙ ap (λ (m : ℕ). block ++ counts_line counts b m) same ∙ sym (append-nil (block ++ counts_line counts b k)),
      subst (λ (m : ℕ). IsBlock asked b m (end_in b.shared m) block) same here,
      refl,
    )
AreBlocks-more counts (first ∷ queries) b k asked text block n (piece, pieces, is, shown, more) n_is here =
    let before = piece ++ counts_line counts b k in
    let line = counts_line counts b n in (
      piece,
      (pieces ++ block) ++ line,
      ap (λ (t : List ℕ). (t ++ block) ++ line) is ∙ ap (λ (t : List ℕ). t ++ line) (append_assoc before pieces block) ∙ append_assoc before (pieces ++ block) line,
      shown,
      AreBlocks-more counts queries b (suc k) asked pieces block n more (omega (arith, n_is)) here,
    )

-- ---- the status

any_last : (p : Option End → Bool) (ends : List (Option End)) (end : Option End) → list_any p (ends ++ end ∷ []) ≡ (list_any p ends || p end)
any_last p [] end = or_none (p end)
  where
    or_none : (a : Bool) → (a || false) ≡ a
    or_none true = refl
    or_none false = refl
any_last p (first ∷ ends) end = by_first (p first) (any_last p ends end)
  where
    by_first : (a : Bool) → list_any p (ends ++ end ∷ []) ≡ (list_any p ends || p end) → (a || list_any p (ends ++ end ∷ [])) ≡ ((a || list_any p ends) || p end)
    by_first true more = refl
    by_first false more = more

abbrev told : (a b c : Bool) → Status
told a b c = if a then PageLimitMet else (if b then StepLimitMet else (if c then Raised else Done))

told_more : (a b c p s e : Bool) →
    (if p || is_page_limit (told a b c) then PageLimitMet else (if s || is_step_limit (told a b c) then StepLimitMet else (if e || is_raised (told a b c) then Raised else told a b c)))
    ≡ told (a || p) (b || s) (c || e)
told_more true b c true s e = refl
told_more true b c false s e = refl
told_more false true c true s e = refl
told_more false true c false true e = refl
told_more false true c false false e = refl
told_more false false true true s e = refl
told_more false false true false true e = refl
told_more false false true false false true = refl
told_more false false true false false false = refl
told_more false false false true s e = refl
told_more false false false false true e = refl
told_more false false false false false true = refl
told_more false false false false false false = refl

-- the status with one end more is that of all ends with it
pub status_more : (b : Standing) (n : ℕ) → status_with (status_of_ends (ends_below b n)) (end_in b.shared n) ≡ status_of_ends (ends_below b (suc n))
status_more b n =
    let ends = ends_below b n in
    let end = end_in b.shared n in
    rw (any_last is_pages ends end, any_last is_steps ends end, any_last is_exception ends end)
    (told_more (list_any is_pages ends) (list_any is_steps ends) (list_any is_exception ends) (is_pages end) (is_steps end) (is_exception end))
