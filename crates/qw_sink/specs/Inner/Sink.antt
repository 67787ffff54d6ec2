-- What a writer of lines has written: mirrors `write_names`, `write_field` and `end_line`.
use Rattle.std.specs.Prelude.{◌≡◌, ◌==◌, ◌&&◌, ◌||◌, ◌++◌, ℕ, List, false, length, not, Some}
use Rattle.std.specs.declared.vec.Vec.{Vec}
use Rattle.std.specs.declared.alloc.Global.{Global}
use Rattle.csv.specs.Writing.{default_writer, fields_written, has_written, is_blank, row_body, text_written, writer_setup}
use Rattle.csv.specs.declared.writer.Writer.{Writer}

-- a writer that has written this text, and is between records
pub record HasWritten (writer : Writer (Vec ℕ Global)) (text : List ℕ) : Type 0 where
  pub setup : writer_setup writer ≡ default_writer
  pub fields : fields_written writer ≡ 0
  pub clean : has_written writer ≡ false
  pub written : text_written (λ (v : Vec ℕ Global). Some v.items) writer ≡ Some text

-- a writer that has written this text, and after it these fields of a record that it has not ended
pub record HasBegun (writer : Writer (Vec ℕ Global)) (text : List ℕ) (fields : List (List ℕ)) : Type 0 where
  pub setup : writer_setup writer ≡ default_writer
  pub count : fields_written writer ≡ length fields
  pub blank : is_blank default_writer fields ≡ (not (has_written writer) && ((length fields == 0) || (length fields == 1)))
  pub written : text_written (λ (v : Vec ℕ Global). Some v.items) writer ≡ Some (text ++ row_body default_writer fields)
