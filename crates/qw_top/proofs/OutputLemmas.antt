-- How the writing of a text goes on.
use Rattle.std.proofs.Common.{◌≡◌, ℕ, ◌+◌, ◌≤◌, Option, Some, None, Result, Ok, Err, List, ◌++◌, length, take, drop, refl, ap, sym, ◌∙◌, append_assoc, length-append, length-drop, arith}
use Rattle.std.specs.Prelude.{OnErr, OnOk}
use Rattle.std.proofs.Math.Seq.{take-add, take-append-add}
use Rattle.std.proofs.lemmas.List.{take-append-le}
use Rattle.qw_top.specs.Output.{TookFront, with_text}

-- a text goes on: a front was taken, and then a front of the rest
pub with_text-with_text : (taken : Option (List ℕ)) (text : List ℕ) (m n : ℕ) → with_text (with_text taken (take m text)) (take n (drop m text)) ≡ with_text taken (take (m + n) text)
with_text-with_text None text m n = refl
with_text-with_text (Some bytes) text m n = ap Some (append_assoc bytes (take m text) (take n (drop m text)) ∙ ap (λ ys. bytes ++ ys) (sym (take-add m n text)))

-- so many octets of the text were written, and no fault was counted
pub record Wrote (text : List ℕ) (written : ℕ) (old new : Option (List ℕ)) (before after : ℕ) : Type 0 where
  pub within : written ≤ length text
  pub front_taken : new ≡ with_text old (take written text)
  pub same_faults : after ≡ before

pub Wrote-more : (text : List ℕ) (written more : ℕ) (old mid new : Option (List ℕ)) (before between after : ℕ) (piece : List ℕ) → Wrote text written old mid before between → piece ≡ drop written text → more ≤ length piece → new ≡ with_text mid (take more piece) → after ≡ between → Wrote text (written + more) old new before after
Wrote-more text written more old mid new before between after piece wrote is fits took same = record {
  within = let e : length piece ≡ length (drop written text) = ap length is in omega (arith, length-drop written text, wrote.within);
  front_taken = took ∙ ap (λ xs. with_text mid (take more xs)) is ∙ ap (λ taken. with_text taken (take more (drop written text))) wrote.front_taken ∙ with_text-with_text old text written more;
  same_faults = same ∙ wrote.same_faults;
}

-- ---- a text in pieces

-- two pieces that were taken one after another are one text
pub with_text-pieces : (old mid new : Option (List ℕ)) (first next : List ℕ) → mid ≡ with_text old first → new ≡ with_text mid next → new ≡ with_text old (first ++ next)
with_text-pieces None mid new first next took more = more ∙ ap (λ taken. with_text taken next) took
with_text-pieces (Some bytes) mid new first next took more =
    more ∙ ap (λ taken. with_text taken next) took ∙ ap Some (append_assoc bytes first next)

-- a front of the first piece is one of the text
pub TookFront-first : (old new : Option (List ℕ)) (first next : List ℕ) → TookFront old new first → TookFront old new (first ++ next)
TookFront-first old new first next (n, within, took) =
    (n, omega (arith, within, length-append first next), took ∙ ap (λ front. with_text old front) (sym (take-append-le n first next within)))

-- and so is the first piece with a front of what comes next
pub TookFront-next : (old mid new : Option (List ℕ)) (first next : List ℕ) → mid ≡ with_text old first → TookFront mid new next → TookFront old new (first ++ next)
TookFront-next old mid new first next took (n, within, more) = (
  length first + n,
  omega (arith, within, length-append first next),
  with_text-pieces old mid new first (take n next) took more ∙ ap (λ front. with_text old front) (sym (take-append-add first next n)),
)

-- the same of a last piece
pub OnOk-pieces : {T E : Type 0} (r : Result T E) (old mid new : Option (List ℕ)) (first next : List ℕ) → mid ≡ with_text old first → OnOk r (new ≡ with_text mid next) → OnOk r (new ≡ with_text old (first ++ next))
OnOk-pieces (Ok x) old mid new first next took more = with_text-pieces old mid new first next took more
OnOk-pieces (Err e) old mid new first next took more = more

pub OnErr-next : {T E : Type 0} (r : Result T E) (old mid new : Option (List ℕ)) (first next : List ℕ) → mid ≡ with_text old first → OnErr r (TookFront mid new next) → OnErr r (TookFront old new (first ++ next))
OnErr-next (Ok x) old mid new first next took more = more
OnErr-next (Err e) old mid new first next took more = TookFront-next old mid new first next took more
