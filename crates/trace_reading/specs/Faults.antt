-- The first line of a text that is out of form.
use Rattle.std.specs.Prelude.{◌≡◌, ℕ, ◌+◌, List, [], ◌∷◌, ◌++◌, length}
use Rattle.trace_reading.specs.declared.trace.Trace.{Trace}
use Rattle.trace_reading.specs.Form.{IsTrace, IsTextOf, lines_of}
use Rattle.trace_reading.specs.Lines.{Lacks}
use Rattle.system_model.specs.Text.{lines_text}

-- some text of the form begins with these lines
pub record Begins (lines : List (List ℕ)) : Type 0 where
  pub trace : Trace
  pub form : IsTrace trace
  pub more : List (List ℕ)
  pub parts : lines_of trace ≡ lines ++ more

-- what comes after the good lines: a line with its end with which no text goes on; or no line feed more, where the good lines with these bytes are no whole text
pub data Wrong (before : List (List ℕ)) (after : List ℕ) : Type 0 where
  NoText : (line rest : List ℕ) → after ≡ line ++ (10 ∷ rest) → Lacks 10 line →
      (Begins (before ++ (line ∷ [])) → ⊥) → Wrong before after
  Unended : Lacks 10 after → ((t : Trace) → IsTextOf (lines_text before ++ after) t → ⊥) →
      Wrong before after

-- the lines before the n-th begin a text, and the n-th is out of form or missing
pub record IsFirstFault (bytes : List ℕ) (n : ℕ) : Type 0 where
  pub before : List (List ℕ)
  pub after : List ℕ
  pub parts : bytes ≡ lines_text before ++ after
  pub good : Begins before
  pub number : n ≡ length before + 1
  pub wrong : Wrong before after
