-- The depths of Systems, one after another.
use Rattle.std.proofs.Common.{◌≡◌, ◌⊎◌, ◌<◌, ◌≤◌, ◌+◌, ℕ, List, [], ◌∷◌, ◌++◌, length, get_or, Option, Some, None, refl, sym, ap, ◌∙◌, subst, inl, inr, arith}
use Rattle.std.specs.List.{slice_get}
use Rattle.std.proofs.lemmas.List.{length_push}
use Rattle.std.proofs.lemmas.List.Elements.{All-contains}
use Rattle.std.proofs.lemmas.Option.{slice_get_within, slice_get-get_or}
use Rattle.ssd_tree.specs.declared.tree.SystemPart.{SystemPart}
use Rattle.ssd_tree.specs.declared.tree.ComponentPart.{ComponentPart}
use Rattle.ssd_tree.specs.declared.tree.SystemTree.{SystemTree}
use Rattle.ssd_tree.specs.Named.{IsNamedTree}
use Rattle.parameter_targets.specs.Scopes.{IsDepth, AtTop, Below}
use Rattle.parameter_targets.specs.Tables.{AreDepths}
use Rattle.parameter_targets.proofs.ListLemmas.{contains_at, push_cases, read_at}

-- the depth of the next System
abbrev pub IsNextDepth : List ℕ → Option ℕ → ℕ → Type 0
IsNextDepth depths None d = d ≡ 0
IsNextDepth depths (Some above) d = (x : ℕ) × (x ≡ get_or depths above x) × (d ≡ x + 1)

pub depths_more : (t : SystemTree) (n d : ℕ) (depths now : List ℕ) (part : SystemPart) → IsNamedTree t → slice_get t.systems n ≡ Some part → IsNextDepth depths part.parent d → now ≡ depths ++ d ∷ [] → AreDepths t n depths → AreDepths t (n + 1) now
depths_more t n d depths now part named is next pushed was = record {
  depths_len = ap length pushed ∙ length_push depths d ∙ ap (λ k. k + 1) was.depths_len;
  each = λ s x e. each s x (push_cases depths d s x (subst (λ z. slice_get z s ≡ Some x) pushed e));
}
  where
    here : (o : Option ℕ) → part.parent ≡ o → IsNextDepth depths o d → IsDepth t n d × (d ≤ n)
    here None e zero_deep = (AtTop n d part is e zero_deep, omega (arith, zero_deep))
    here (Some above) e one_more =
        let less = named.outer n above part is e in
        let len = was.depths_len in
        let x = one_more.0 in
        let outer = was.each above x (read_at depths depths above x refl (omega (arith, less, len)) one_more.1) in
        let small = outer.1 in
        let next_is = one_more.2 in
        (Below n above d x part is e outer.0 one_more.2, omega (arith, next_is, small, less))

    each : (s x : ℕ) → (slice_get depths s ≡ Some x) ⊎ ((s ≡ length depths) × (d ≡ x)) → IsDepth t s x × (x ≤ s)
    each s x (inl e) = was.each s x e
    each s x (inr h) =
        let same : s ≡ n = h.0 ∙ was.depths_len in
        subst (λ z. IsDepth t s z × (z ≤ s)) h.1 (subst (λ z. IsDepth t z d × (d ≤ z)) (sym same) (here part.parent refl next))

pub depths_none : (t : SystemTree) (depths : List ℕ) → depths ≡ [] → AreDepths t 0 depths
depths_none t depths e = record { depths_len = ap length e; each = λ s d is. absurd (let w = slice_get_within depths s d is in let l = ap length e in omega (arith, w, l)) }

pub depth_at : (t : SystemTree) (n s : ℕ) (depths : List ℕ) → AreDepths t n depths → s < n → IsDepth t s (get_or depths s 0) × (get_or depths s 0 ≤ s)
depth_at t n s depths are less = are.each s (get_or depths s 0) (slice_get-get_or depths s 0 (let l = are.depths_len in omega (arith, l, less)))

pub system_of : (t : SystemTree) (i : ℕ) (c : ComponentPart) → IsNamedTree t → slice_get t.components i ≡ Some c → c.system < length t.systems
system_of t i c named is = All-contains (λ (c : ComponentPart). c.system < length t.systems) t.components c named.within (contains_at t.components i c is)

-- a depth that was read
pub depth_read : (t : SystemTree) (n s x : ℕ) (depths : List ℕ) → AreDepths t n depths → s < n → x ≡ get_or depths s x → IsDepth t s x × (x ≤ s)
depth_read t n s x depths are less is = are.each s x (read_at depths depths s x refl (let l = are.depths_len in omega (arith, l, less)) is)

-- that of a System that a part of it stands in
pub depth_of_part : (t : SystemTree) (i x : ℕ) (c d : ComponentPart) (depths : List ℕ) → IsNamedTree t → slice_get t.components i ≡ Some c → c ≡ d → AreDepths t (length t.systems) depths → x ≡ get_or depths d.system x → IsDepth t c.system x × (x ≤ c.system) × (c.system < length depths)
depth_of_part t i x c d depths named is same are read =
    let less = system_of t i c named is in
    let deep = depth_read t (length t.systems) c.system x depths are less (read ∙ ap (λ (z : ComponentPart). get_or depths z.system x) (sym same)) in
    (deep.0, deep.1, let l = are.depths_len in omega (arith, l, less))
