-- The segments of a source.
use Rattle.std.proofs.Common.{◌≡◌, ℕ, Bool, true, false, not, ◌&&◌, ◌||◌, ◌==◌, List, [], ◌∷◌, length, map, refl, sym, ap, ◌∙◌}
use Rattle.std.specs.List.{list_any}
use Rattle.std.proofs.lemmas.List.{length-map}
use Rattle.sim_base.specs.Path.{kept_segments}
use Rattle.ssd_tree.specs.Sources.{is_left_out, is_astray, is_path}
use denote.Bor.{Bor}

any-map : {X Y : Type 0} (f : X → Y) (p : Y → Bool) (xs : List X) → list_any p (map f xs) ≡ list_any (λ x. p (f x)) xs
any-map f p [] = refl
any-map f p (x ∷ xs) = ap (λ b. p (f x) || b) (any-map f p xs)

-- each segment leads down, and there are some
abbrev pub Down : List (List ℕ) → Bool
Down kept = not (length kept == 0) && not (list_any is_astray kept)

pub path_when : (source : List ℕ) (segments : List (Bor (List ℕ))) (result : Bool) → list_any is_left_out source ≡ false → map (λ (s : Bor (List ℕ)). s.now) segments ≡ kept_segments source
    → result ≡ (not (length segments == 0) && not (list_any (λ (s : Bor (List ℕ)). is_astray s.now) segments)) → result ≡ is_path source
path_when source segments result none kept is =
    let text : Bor (List ℕ) → List ℕ = λ (s : Bor (List ℕ)). s.now in
    is ∙ ap (λ (n : ℕ). not (n == 0) && not (list_any (λ (s : Bor (List ℕ)). is_astray s.now) segments)) (sym (length-map segments text))
    ∙ ap (λ (b : Bool). not (length (map text segments) == 0) && not b) (sym (any-map text is_astray segments))
    ∙ ap Down kept
    ∙ ap (λ (b : Bool). not b && Down (kept_segments source)) (sym none)

pub no_path : (source : List ℕ) → list_any is_left_out source ≡ true → false ≡ is_path source
no_path source some = ap (λ (b : Bool). not b && Down (kept_segments source)) (sym some)
