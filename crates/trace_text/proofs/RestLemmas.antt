-- A text whose prefix stands in a buffer, and whose rest is still to be put.
use Rattle.std.proofs.Common.{◌≡◌, ℕ, ◌+◌, ◌<◌, ◌≤◌, ℤ, Option, Some, None, List, [], ◌∷◌, ◌++◌, append-nil, append_assoc, length, map, take, drop, get_or, codes, refl, sym, ap, ◌∙◌, subst, arith, zero, suc}
use Rattle.std.specs.List.{slice_get}
use Rattle.std.proofs.lemmas.Grind.{common_steps}
use Rattle.std.proofs.lemmas.List.{drop_all, drop_more}
use Rattle.std.proofs.lemmas.Option.{get_or_from_slice_get, slice_get_within}
use Rattle.port_values.specs.Valued.{valued_from}
use Rattle.system_model.specs.declared.system.Component.{Component}
use Rattle.system_model.specs.declared.system.Port.{Port}
use Rattle.system_model.specs.Text.{lines_text, port_line, port_lines_from, value_line, value_lines_from}
use Rattle.trace_text.specs.Lines.{ended}

-- what stands up to `at`, with the rest after it, is the whole text
pub record StandsBut (rest : List ℕ) (at : ℕ) (out whole : List ℕ) : Type 0 where
  pub text : take at out ++ rest ≡ whole
  pub fits : at + length rest ≡ length whole

-- there is room for the next piece
pub room_next : (piece rest out whole : List ℕ) (at : ℕ) → StandsBut (piece ++ rest) at out whole → length whole ≤ length out → at + length piece ≤ length out
room_next piece rest out whole at stands room = let fits = stands.fits in grind (arith, common_steps)

-- and then it stands too
pub stands_more : (piece rest out new whole : List ℕ) (at end : ℕ) → StandsBut (piece ++ rest) at out whole → end ≡ at + length piece → take end new ≡ take at out ++ piece → StandsBut rest end new whole
stands_more piece rest out new whole at end stands is_end is_text = record {
  text = let text = stands.text in grind (arith, common_steps);
  fits = let fits = stands.fits in grind (arith, common_steps);
}

-- a line before others
pub line_first : (line : List ℕ) (lines : List (List ℕ)) → lines_text (line ∷ lines) ≡ ended line ++ lines_text lines
line_first line lines = sym (append_assoc line (10 ∷ []) (lines_text lines))

-- the line of a port, piece by piece
pub port_put : (prefix number kind component name : List ℕ) → ((((((((prefix ++ codes "port ") ++ number) ++ codes " ") ++ kind) ++ codes " ") ++ component) ++ codes " ") ++ name) ++ codes "\n"
    ≡ prefix ++ ended (codes "port " ++ (number ++ (32 ∷ (kind ++ (32 ∷ (component ++ (32 ∷ name)))))))
port_put prefix number kind component name = simp append_assoc

-- the first of the port lines from k on is that of the k-th port
pub next_port : (components : List Component) (ports : List Port) (k : ℕ) (port : Port) (at : ℕ) (out whole : List ℕ) → StandsBut (lines_text (port_lines_from components k (drop k ports))) at out whole →
    k < length ports → port ≡ get_or ports k port → StandsBut (ended (port_line components k port) ++ lines_text (port_lines_from components (k + 1) (drop (k + 1) ports))) at out whole
next_port components ports k port at out whole stands within is =
    let rest = port_lines_from components (k + 1) (drop (k + 1) ports) in
    let left : drop k ports ≡ port ∷ drop (k + 1) ports = grind (arith, common_steps) in
    let lines : lines_text (port_lines_from components k (drop k ports)) ≡ ended (port_line components k port) ++ lines_text rest =
    ap (λ (more : List Port). lines_text (port_lines_from components k more)) left ∙ line_first (port_line components k port) rest in
    subst (λ (text : List ℕ). StandsBut text at out whole) lines stands

-- the lines of ports that have a value
abbrev pub entry_lines : List (ℕ × ℤ) → List (List ℕ)
entry_lines entries = map (λ (e : ℕ × ℤ). value_line e.0 e.1) entries

-- these are the value lines
pub value_lines_are : (k : ℕ) (values : List (Option ℤ)) → value_lines_from k values ≡ entry_lines (valued_from k values)
value_lines_are k [] = refl
value_lines_are k (None ∷ values) = value_lines_are (k + 1) values
value_lines_are k (Some value ∷ values) = ap (λ (lines : List (List ℕ)). value_line k value ∷ lines) (value_lines_are (k + 1) values)

-- so is that of the k-th port that has a value
pub next_entry : (entries : List (ℕ × ℤ)) (k p : ℕ) (value : ℤ) (at : ℕ) (out whole : List ℕ) → StandsBut (lines_text (entry_lines (drop k entries))) at out whole → Some (p, value) ≡ slice_get entries k →
    StandsBut (ended (value_line p value) ++ lines_text (entry_lines (drop (k + 1) entries))) at out whole
next_entry entries k p value at out whole stands is =
    let within = slice_get_within entries k (p, value) (sym is) in
    let left : drop k entries ≡ (p, value) ∷ drop (k + 1) entries =
    drop_more entries k (p, value) within ∙ ap (λ (e : ℕ × ℤ). e ∷ drop (k + 1) entries) (get_or_from_slice_get entries k (p, value) (p, value) (sym is)) in
    subst (λ (text : List ℕ). StandsBut text at out whole)
    (ap (λ (more : List (ℕ × ℤ)). lines_text (entry_lines more)) left ∙ line_first (value_line p value) (entry_lines (drop (k + 1) entries))) stands

-- after the last nothing is left
pub all_through : (entries : List (ℕ × ℤ)) (k at : ℕ) (out whole : List ℕ) → StandsBut (lines_text (entry_lines (drop k entries))) at out whole → length entries ≤ k → StandsBut [] at out whole
all_through entries k at out whole stands past = subst (λ (more : List (ℕ × ℤ)). StandsBut (lines_text (entry_lines more)) at out whole) (drop_all k entries past) stands

pub all_put : (entries : List (ℕ × ℤ)) (k at : ℕ) (out whole : List ℕ) → StandsBut (lines_text (entry_lines (drop k entries))) at out whole → None ≡ slice_get entries k → StandsBut [] at out whole
all_put entries k at out whole stands none = all_through entries k at out whole stands (past entries k (sym none))
  where
    past : (xs : List (ℕ × ℤ)) (i : ℕ) → slice_get xs i ≡ None → length xs ≤ i
    past [] i e = omega arith
    past (x ∷ xs) zero e = absurd (cc)
    past (x ∷ xs) (suc i) e = let h = past xs i e in omega (arith, h)

-- no more are there than ports
pub valued_few : (k : ℕ) (values : List (Option ℤ)) → length (valued_from k values) ≤ length values
valued_few k [] = omega arith
valued_few k (None ∷ values) = let few = valued_few (k + 1) values in omega (arith, few)
valued_few k (Some value ∷ values) = let few = valued_few (k + 1) values in omega (arith, few)

-- a text of which nothing is left
pub stands_whole : (at : ℕ) (out whole : List ℕ) → StandsBut [] at out whole → (at ≡ length whole) × (take at out ≡ whole)
stands_whole at out whole stands = ((let fits = stands.fits in omega (arith, fits)), sym (append-nil (take at out)) ∙ stands.text)
