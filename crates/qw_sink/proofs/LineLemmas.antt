-- A line of fields, a field at a time.
use Rattle.std.proofs.Common.{◌≡◌, ◌≢◌, ◌==◌, ◌≤◌, ◌<◌, ◌+◌, ◌-◌, ◌^◌, ◌∙◌, ℕ, List, [], ◌∷◌, ◌++◌, true, false, not, Vec, Global, Option, Some, None, length, map, take, get_or, sym, refl, ap, append_assoc, length-append, arith}
use Rattle.std.specs.Prelude.{min}
use Rattle.std.specs.Io.KnownBytes.{Appends}
use Rattle.std.proofs.lemmas.List.{append-nil, length-map, length-take, map-append, take_more}
use Rattle.csv.specs.Writing.{default_writer, field_text, fields_written, has_written, is_blank, next_sep, row_body, tail_text, text_written, writer_setup}
use Rattle.csv.specs.declared.writer.QuoteStyle.TheVariants as style
use Rattle.csv.specs.declared.writer.Writer.{Writer}
use Rattle.csv.proofs.WriteFacts.{blank-more, row-more}
use Rattle.qw_sink.specs.Sink.{line_of}
use Rattle.qw_sink.specs.Inner.Sink.{HasBegun, HasWritten}

-- what is made of the first items, and of one more
pub one-more : {A B : Type 0} (f : A → B) (xs : List A) (i : ℕ) (d : A) (y : B) → i < length xs → y ≡ f (get_or xs i d)
    → map f (take (i + 1) xs) ≡ map f (take i xs) ++ y ∷ []
one-more f xs i d y lt e = rw (take_more xs i d lt, e) (map-append f (take i xs) (get_or xs i d ∷ []))

pub few-taken : {A B : Type 0} (f : A → B) (xs : List A) (i : ℕ) → i + 1 ≤ 2 ^ 64 - 1 → length (map f (take i xs)) < 2 ^ 64 - 1
few-taken f xs i fits = omega (arith, length-map (take i xs) f, length-take i xs)

-- what the vector under a writer has
abbrev pub held : Vec ℕ Global → Option (List ℕ)
held v = Some v.items

-- what is known of a text that was added to
known : (a b : Option (List ℕ)) (xs ys : List ℕ) → a ≡ Some xs → Appends a b ys → b ≡ Some (xs ++ ys)
known None b xs ys e more = cc e
known (Some x) None xs ys e more = absurd more
known (Some x) (Some y) xs ys e more = cc (e, more)

-- a line begins without fields
pub begins : (writer : Writer (Vec ℕ Global)) (text : List ℕ) → HasWritten writer text → HasBegun writer text []
unfolding is_blank
begins writer text was = record {
  setup = was.setup;
  count = was.fields;
  blank = rw was.clean refl;
  written = was.written ∙ ap Some (sym (append-nil text));
}

-- one more field, by what `Writer::write_field` promises
pub goes-on : (old new : Writer (Vec ℕ Global)) (text : List ℕ) (fields : List (List ℕ)) (field : List ℕ) → length fields < 2 ^ 64 - 1
    → HasBegun old text fields
    → (((writer_setup old).style ≢ style.NonNumeric) → Appends (text_written held old) (text_written held new) (next_sep (writer_setup old) (fields_written old) ++ field_text (writer_setup old) field))
    → writer_setup new ≡ writer_setup old
    → fields_written new ≡ min (fields_written old + 1) (2 ^ 64 - 1)
    → ((has_written old ≡ false) → ((writer_setup old).style ≢ style.NonNumeric) → has_written new ≡ not (length (field_text (writer_setup old) field) == 0))
    → ((has_written old ≡ true) → has_written new ≡ true)
    → HasBegun new text (fields ++ field ∷ [])
goes-on old new text fields field few was adds same counts wrote stays =
    let size : length (fields ++ field ∷ []) ≡ length fields + 1 = length-append fields (field ∷ []) in
    let numbers : default_writer.style ≢ style.NonNumeric = λ e. cc e in
    let added : Appends (text_written held old) (text_written held new) (next_sep default_writer (length fields) ++ field_text default_writer field) =
    rw (was.setup, was.count) at adds numbers in
    record {
      setup = same ∙ was.setup;
      count = counts ∙ rw (was.count, size) (omega arith);
      blank = rw size (blank-more default_writer fields field (has_written old) (has_written new) was.blank (λ clean. rw was.setup at wrote clean numbers) stays);
      written =
          known (text_written held old) (text_written held new) _ _ was.written added
          ∙ ap Some (append_assoc text (row_body default_writer fields) _ ∙ ap (λ t. text ++ t) (sym (row-more default_writer fields field)));
    }

-- the end of a line, by what `Writer::end_record` promises
pub ends : (old new : Writer (Vec ℕ Global)) (text : List ℕ) (fields : List (List ℕ)) → HasBegun old text fields
    → Appends (text_written held old) (text_written held new) (tail_text (writer_setup old) (has_written old) (fields_written old))
    → fields_written new ≡ 0 → has_written new ≡ false → writer_setup new ≡ writer_setup old
    → HasWritten new (text ++ line_of fields)
ends old new text fields was adds none clean same =
    let added : Appends (text_written held old) (text_written held new) (tail_text default_writer (has_written old) (length fields)) =
    rw (was.setup, was.count) at adds in
    let line : row_body default_writer fields ++ tail_text default_writer (has_written old) (length fields) ≡ line_of fields = rw was.blank refl in
    record {
      setup = same ∙ was.setup;
      fields = none;
      clean = clean;
      written =
          known (text_written held old) (text_written held new) _ _ was.written added
          ∙ ap Some (append_assoc text (row_body default_writer fields) _ ∙ ap (λ t. text ++ t) line);
    }
