-- The first uses of paths, one path after another; and paths as their sources.
use Rattle.std.proofs.Common.{◌≡◌, ◌⊎◌, ℕ, suc, ◌+◌, ◌<◌, Bool, true, false, cond, List, [], ◌∷◌, ◌++◌, length, map, Some, refl, sym, ap, ◌∙◌, inl, inr, arith, append-nil, length-append, zero-lt-suc}
use Rattle.std.specs.Prelude.{All, not, filter, bytes_eq, codes, if◌then◌else◌, ◌==◌}
use Rattle.std.proofs.lemmas.List.Elements.{All-head, All-tail, filter-append}
use Rattle.std.proofs.lemmas.List.{append_cancel_left, append_cancel_right}
use Rattle.std.proofs.lemmas.Bool.Decides.{Decides-eqb}
use Rattle.std.proofs.lemmas.Slice.Eq.{bytes_eq-Decides}
use Rattle.sim_base.specs.Path.{joined_path}
use Rattle.ssd_tree.specs.Parts.{IsPlain}
use Rattle.ssd_tree.specs.declared.tree.ComponentPart.{ComponentPart}
use Rattle.system_files.specs.Files.{description_path, first_uses}
use Rattle.system_files.specs.Order.{folder_of, model_path}
use Rattle.system_files.specs.Steps.{IsNew}
use Rattle.system_files.proofs.ListLemmas.{Each}

-- the path is one of these
abbrev pub IsAmong : List ℕ → List (List ℕ) → Type 0
IsAmong x [] = ⊥
IsAmong x (y ∷ ys) = (y ≡ x) ⊎ IsAmong x ys

abbrev pub IsOther : List ℕ → List ℕ → Type 0
IsOther x y = y ≡ x → ⊥

among_or : (xs : List (List ℕ)) (x : List ℕ) → IsAmong x xs ⊎ Each (IsOther x) xs
among_or [] x = inr tt
among_or (y ∷ xs) x = by (bytes_eq y x) refl (among_or xs x)
  where
    by : (b : Bool) → bytes_eq y x ≡ b → IsAmong x xs ⊎ Each (IsOther x) xs → IsAmong x (y ∷ xs) ⊎ Each (IsOther x) (y ∷ xs)
    by true e rest = inl (inl ((bytes_eq-Decides y x).0 e))
    by false e (inl among) = inl (inr among)
    by false e (inr others) = inr (λ same. (let yes : bytes_eq y x ≡ true = (bytes_eq-Decides y x).1 same in cc), others)

kept : (y x : List ℕ) (xs : List (List ℕ)) → IsOther x y → filter (λ other. not (bytes_eq other y)) (xs ++ x ∷ []) ≡ filter (λ other. not (bytes_eq other y)) xs ++ x ∷ []
kept y x xs new = filter-append (λ other. not (bytes_eq other y)) xs (x ∷ []) ∙ ap (λ (more : List (List ℕ)). filter (λ other. not (bytes_eq other y)) xs ++ more) (by (bytes_eq x y) refl)
  where
    by : (b : Bool) → bytes_eq x y ≡ b → cond (not b) (x ∷ []) [] ≡ x ∷ []
    by true e = absurd (new (sym ((bytes_eq-Decides x y).0 e)))
    by false e = refl

left_out : (y x : List ℕ) (xs : List (List ℕ)) → y ≡ x → filter (λ other. not (bytes_eq other y)) (xs ++ x ∷ []) ≡ filter (λ other. not (bytes_eq other y)) xs
left_out y x xs same =
    filter-append (λ other. not (bytes_eq other y)) xs (x ∷ []) ∙ ap (λ (more : List (List ℕ)). filter (λ other. not (bytes_eq other y)) xs ++ more) (by (bytes_eq x y) refl)
    ∙ append-nil (filter (λ other. not (bytes_eq other y)) xs)
  where
    by : (b : Bool) → bytes_eq x y ≡ b → cond (not b) (x ∷ []) [] ≡ []
    by true e = refl
    by false e = let yes : bytes_eq x y ≡ true = (bytes_eq-Decides x y).1 (sym same) in absurd (cc)

-- a new path is one use more
pub uses_new : (xs : List (List ℕ)) (x : List ℕ) → Each (IsOther x) xs → first_uses (xs ++ x ∷ []) ≡ first_uses xs ++ x ∷ []
uses_new [] x new = refl
uses_new (y ∷ xs) x new = ap (λ (paths : List (List ℕ)). y ∷ paths) (ap (filter (λ other. not (bytes_eq other y))) (uses_new xs x new.1) ∙ kept y x (first_uses xs) new.0)

-- a path that was used is none
pub uses_seen : (xs : List (List ℕ)) (x : List ℕ) → IsAmong x xs → first_uses (xs ++ x ∷ []) ≡ first_uses xs
uses_seen [] x among = absurd among
uses_seen (y ∷ xs) x among = ap (λ (paths : List (List ℕ)). y ∷ paths) (by (λ h. uses_seen xs x h) among (among_or xs x))
  where
    by : (IsAmong x xs → first_uses (xs ++ x ∷ []) ≡ first_uses xs) → (y ≡ x) ⊎ IsAmong x xs → IsAmong x xs ⊎ Each (IsOther x) xs →
        filter (λ other. not (bytes_eq other y)) (first_uses (xs ++ x ∷ [])) ≡ filter (λ other. not (bytes_eq other y)) (first_uses xs)
    by seen (inr among) found = ap (filter (λ other. not (bytes_eq other y))) (seen among)
    by seen (inl same) (inl among) = ap (filter (λ other. not (bytes_eq other y))) (seen among)
    by seen (inl same) (inr new) = ap (filter (λ other. not (bytes_eq other y))) (uses_new xs x new) ∙ left_out y x (first_uses xs) same

-- ---- paths and sources

abbrev pub HasPlainSource : ComponentPart → Type 0
HasPlainSource c = IsPlain c.source

-- the folder of a source
abbrev in_folder : List ℕ → List ℕ → List ℕ
in_folder directory source = if length source == 0 then directory else joined_path directory source

longer : (directory source : List ℕ) → directory ≡ directory ++ source → length source ≡ 0
longer directory source e = none (length directory) (length source) (ap length e ∙ length-append directory source)
  where
    none : (m n : ℕ) → m ≡ m + n → n ≡ 0
    none m n e = omega arith

below : (directory : List ℕ) (x : ℕ) (xs : List ℕ) → IsPlain (x ∷ xs) → in_folder directory (x ∷ xs) ≡ directory ++ 47 ∷ (x ∷ xs)
below directory x xs plain = by (suc (length xs) == 0) refl
  where
    by : (b : Bool) → (suc (length xs) == 0) ≡ b → cond b directory (joined_path directory (x ∷ xs)) ≡ directory ++ 47 ∷ (x ∷ xs)
    by true e = let none : suc (length xs) ≡ 0 = (Decides-eqb (suc (length xs)) 0).0 e in absurd (omega arith)
    by false e = ap (λ (path : List ℕ). directory ++ 47 ∷ path) (sym plain)

folder_once : (directory a b : List ℕ) → IsPlain a → IsPlain b → in_folder directory a ≡ in_folder directory b → a ≡ b
folder_once directory [] [] p q e = refl
folder_once directory [] (y ∷ ys) p q e = let none : suc (suc (length ys)) ≡ 0 = longer directory (47 ∷ (y ∷ ys)) (e ∙ below directory y ys q) in absurd (omega arith)
folder_once directory (x ∷ xs) [] p q e = let none : suc (suc (length xs)) ≡ 0 = longer directory (47 ∷ (x ∷ xs)) (sym e ∙ below directory x xs p) in absurd (omega arith)
folder_once directory (x ∷ xs) (y ∷ ys) p q e =
    let same : 47 ∷ (x ∷ xs) ≡ 47 ∷ (y ∷ ys) = append_cancel_left directory _ _ (sym (below directory x xs p) ∙ e ∙ below directory y ys q) in cc

pub same_source : (directory : List ℕ) (a b : ComponentPart) → HasPlainSource a → HasPlainSource b → model_path directory a ≡ model_path directory b → a.source ≡ b.source
same_source directory a b p q e =
    folder_once directory a.source b.source p q (append_cancel_right (folder_of directory a) (folder_of directory b) (codes "/modelDescription.xml") e)

pub same_path : (directory : List ℕ) (a b : ComponentPart) → a.source ≡ b.source → model_path directory a ≡ model_path directory b
same_path directory a b e = ap (λ (source : List ℕ). description_path (in_folder directory source)) e

-- a source that is new has a path that is
pub new_path : (directory : List ℕ) (taken rest : List ComponentPart) (c : ComponentPart) → All HasPlainSource taken → HasPlainSource c → IsNew (taken ++ rest) (length taken) c.source →
    Each (IsOther (model_path directory c)) (map (model_path directory) taken)
new_path directory [] rest c plain own new = tt
new_path directory (t ∷ taken) rest c plain own new = (
  λ same. new 0 (zero-lt-suc (length taken)) (ap Some (same_source directory t c (All-head HasPlainSource t taken plain) own same)),
  new_path directory taken rest c (All-tail HasPlainSource t taken plain) own (λ k below is. let more : suc k < suc (length taken) = omega arith in new (suc k) more is),
)
