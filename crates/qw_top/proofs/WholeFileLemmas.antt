-- How the reading of a file goes on, and how it ends.
use Rattle.std.proofs.Common.{◌≡◌, ℕ, ◌+◌, ◌≤◌, ◌<◌, Option, Some, None, List, [], ◌++◌, length, take, drop, ap, sym, ◌∙◌, length-append, length-take, subst, arith}
use Rattle.std.specs.Prelude.{unwrap_or, IsSomeAnd}
use Rattle.std.proofs.lemmas.List.{take_all, length-take-le}
use Rattle.std.proofs.Math.Seq.{take-add}
use Rattle.qw_io.specs.Faults.{IsCounted}
use Rattle.qw_io.specs.Files.{OfFile}
use Rattle.qw_top.specs.Asking.{AsksWithin, IsOne}
use Rattle.qw_top.specs.Inner.WholeFiles.{IsFront}
use Rattle.qw_top.specs.Inner.Shelves.{HasRead, Told}

-- a front of a list, and a front of what stands behind it
pub front-append : (bytes more file : List ℕ) → bytes ≡ take (length bytes) file → more ≡ take (length more) (drop (length bytes) file) → bytes ++ more ≡ take (length (bytes ++ more)) file
front-append bytes more file front next =
    rw (length-append bytes more, take-add (length bytes) (length more) file) (ap (λ xs. xs ++ more) front ∙ ap (λ ys. take (length bytes) file ++ ys) next)

-- a front that is no shorter than the list is the list
pub front-whole : (bytes file : List ℕ) → bytes ≡ take (length bytes) file → length file ≤ length bytes → file ≡ bytes
front-whole bytes file front short = sym (front ∙ take_all (length bytes) file short)

whole_of : (o : Option (List ℕ)) (bytes : List ℕ) → bytes ≡ take (length bytes) (unwrap_or o []) → IsSomeAnd o (λ file. length file ≤ length bytes) → IsSomeAnd o (λ file. file ≡ bytes)
whole_of None bytes front short = short
whole_of (Some file) bytes front short = front-whole bytes file front short

-- what was read at the end of the file is the file
pub IsFront-whole : (files : Option (List ℕ → Option (List ℕ))) (name bytes : List ℕ) → IsFront files name bytes → OfFile files name (λ file. length file ≤ length bytes) → OfFile files name (λ file. file ≡ bytes)
IsFront-whole None name bytes front short = tt
IsFront-whole (Some bytes_of) name bytes front short = whole_of (bytes_of name) bytes front short

more_of : (o : Option (List ℕ)) (bytes into : List ℕ) (count : ℕ) → bytes ≡ take (length bytes) (unwrap_or o []) → count ≤ length into → IsSomeAnd o (λ file. take count into ≡ take count (drop (length bytes) file)) → bytes ++ take count into ≡ take (length (bytes ++ take count into)) (unwrap_or o [])
more_of None bytes into count front fits next = absurd next
more_of (Some file) bytes into count front fits next =
    front-append bytes (take count into) file front (rw (length-take-le count into fits) next)

-- a piece that was read behind a front
pub IsFront-more : (files : Option (List ℕ → Option (List ℕ))) (name bytes into : List ℕ) (count : ℕ) → IsFront files name bytes → count ≤ length into → OfFile files name (λ file. take count into ≡ take count (drop (length bytes) file)) → IsFront files name (bytes ++ take count into)
IsFront-more None name bytes into count front fits next = tt
IsFront-more (Some bytes_of) name bytes into count front fits next =
    more_of (bytes_of name) bytes into count front fits next

longer_of : (o : Option (List ℕ)) (bytes : List ℕ) (limit : ℕ) → bytes ≡ take (length bytes) (unwrap_or o []) → limit < length bytes → IsSomeAnd o (λ file. limit < length file)
longer_of None bytes limit front long = absurd (omega (arith, ap length front, length-take (length bytes) empty))
  where
    empty : List ℕ
    empty = []
longer_of (Some file) bytes limit front long = omega (arith, ap length front, length-take (length bytes) file)

-- a front that is longer than the limit
pub IsFront-longer : (files : Option (List ℕ → Option (List ℕ))) (name bytes : List ℕ) (limit : ℕ) → IsFront files name bytes → limit < length bytes → OfFile files name (λ file. limit < length file)
IsFront-longer None name bytes limit front long = tt
IsFront-longer (Some bytes_of) name bytes limit front long = longer_of (bytes_of name) bytes limit front long

-- what is read after a reading without fault leaves what both together do
pub HasRead-then : (failed : Option (List ℕ)) (first second third : Told) → HasRead None first second → HasRead failed second third → HasRead failed first third
HasRead-then None first second third h k = record {
  same_files = k.same_files ∙ h.same_files;
  never_falls = omega (arith, h.never_falls, k.never_falls);
  counts = (k.counts.0 ∙ h.counts.0, k.counts.1 ∙ h.counts.1);
}
HasRead-then (Some name) first second third h k = record {
  same_files = k.same_files ∙ h.same_files;
  never_falls = omega (arith, h.never_falls, k.never_falls);
  counts = (subst (λ n. IsCounted n third.faults) h.counts.0 k.counts.0, k.counts.1);
}

-- how far the reading has come
pub record Reads (before now : Told) (name bytes : List ℕ) (limit : ℕ) : Type 0 where
  pub front : IsFront before.files name bytes
  pub within : length bytes ≤ limit + 1
  pub shelf : HasRead None before now
  pub asked : AsksWithin (IsOne name limit) before.watched now.watched
