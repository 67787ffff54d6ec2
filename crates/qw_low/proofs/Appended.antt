-- Steps added one after another, and what holds of a result.
use Rattle.std.proofs.Common.{◌≡◌, List, ◌++◌, Result, Ok, Err, IfOk, OnOk, ap, ◌∙◌}
use Rattle.std.proofs.lemmas.List.{append_assoc}

pub two : {A : Type 0} (c0 c1 c2 a b : List A) → c1 ≡ c0 ++ a → c2 ≡ c1 ++ b → c2 ≡ c0 ++ (a ++ b)
two c0 c1 c2 a b one more = more ∙ ap (λ c. c ++ b) one ∙ append_assoc c0 a b

pub three : {A : Type 0} (c0 c1 c2 c3 a b c : List A) → c1 ≡ c0 ++ a → c2 ≡ c1 ++ b → c3 ≡ c2 ++ c → c3 ≡ c0 ++ (a ++ (b ++ c))
three c0 c1 c2 c3 a b c one more most = two c0 c1 c3 a (b ++ c) one (two c1 c2 c3 b c more most)

pub four : {A : Type 0} (c0 c1 c2 c3 c4 a b c d : List A) → c1 ≡ c0 ++ a → c2 ≡ c1 ++ b → c3 ≡ c2 ++ c → c4 ≡ c3 ++ d → c4 ≡ c0 ++ (a ++ (b ++ (c ++ d)))
four c0 c1 c2 c3 c4 a b c d one more most last = two c0 c1 c4 a (b ++ (c ++ d)) one (three c1 c2 c3 c4 b c d more most last)

pub if_ok : {A E : Type 0} (P Q : A → Type 0) (r : Result A E) → ((v : A) → P v → Q v) → IfOk r P → IfOk r Q
if_ok P Q (Ok v) more h = more v h
if_ok P Q (Err e) more h = tt

pub on_ok : {A E : Type 0} (P Q : Type 0) (r : Result A E) → (P → Q) → OnOk r P → OnOk r Q
on_ok P Q (Ok v) more h = more h
on_ok P Q (Err e) more h = tt
