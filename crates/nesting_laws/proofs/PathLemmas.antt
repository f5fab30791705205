-- Paths below a folder lead down.
use Rattle.std.proofs.Common.{◌≡◌, ◌∙◌, ◌⊎◌, inl, inr, ℕ, suc, ◌+◌, ◌-◌, ◌<◌, ◌==◌, not, Bool, true, false, if◌then◌else◌, List, [], ◌∷◌, ◌++◌, length, take, get_or, refl, sym, ap, subst, arith, All, append_assoc, length-append}
use Rattle.std.specs.List.{join_with_byte}
use Rattle.std.proofs.lemmas.Bool.{cases_order}
use Rattle.std.proofs.lemmas.Bool.Decides.{nat_tests}
use Rattle.std.proofs.Math.Seq.{take-append-add, take-append_seam}
use Rattle.std.proofs.lemmas.List.{get_or-append-add, get_or_append_left}
use Rattle.sim_base.specs.Path.{is_dot}
use Rattle.std.proofs.lemmas.List.Elements.{All-append, All-cons, All-get_or, All-head, All-nil, All-tail}
use Rattle.ssd_tree.specs.declared.tree.NestedKind.{NestedKind}
use Rattle.ssd_tree.specs.declared.tree.NestedKind.TheVariants.{Package, Definition}
use Rattle.ssd_tree.specs.Sources.{LeadsDown}
use Rattle.nested_documents.specs.Folders.{Below, IsFolderOf, Top}
use Rattle.nested_documents.specs.Moves.{path_below}

-- two paths, one below the other
joined : (x : List ℕ) (xs : List (List ℕ)) (y : List ℕ) (ys : List (List ℕ)) → join_with_byte 47 ((x ∷ xs) ++ (y ∷ ys)) ≡ join_with_byte 47 (x ∷ xs) ++ 47 ∷ join_with_byte 47 (y ∷ ys)
joined x [] y ys = refl
joined x (z ∷ xs) y ys =
    ap (λ (rest : List ℕ). x ++ 47 ∷ rest) (joined z xs y ys) ∙ sym (append_assoc x (47 ∷ join_with_byte 47 (z ∷ xs)) (47 ∷ join_with_byte 47 (y ∷ ys)))

above_none : (n : ℕ) → (suc n == 0) ≡ false
above_none n = grind (arith, nat_tests)

some_parts : (xs ys : List (List ℕ)) → (length xs == 0) ≡ false → (length (xs ++ ys) == 0) ≡ false
some_parts [] ys e = absurd (cc)
some_parts (x ∷ xs) ys e = above_none (length (xs ++ ys))

joined_all : (xs ys : List (List ℕ)) → (length xs == 0) ≡ false → (length ys == 0) ≡ false → join_with_byte 47 (xs ++ ys) ≡ join_with_byte 47 xs ++ 47 ∷ join_with_byte 47 ys
joined_all [] ys e f = absurd (cc)
joined_all (x ∷ xs) [] e f = absurd (cc)
joined_all (x ∷ xs) (y ∷ ys) e f = joined x xs y ys

pub leads_joined : (folder path : List ℕ) → LeadsDown folder → LeadsDown path → LeadsDown (folder ++ 47 ∷ path)
leads_joined folder path a b = record {
  segments = a.segments ++ b.segments;
  some = some_parts a.segments b.segments a.some;
  whole = All-append (λ segment. All (λ b. (b == 47) ≡ false) segment) a.segments b.segments a.whole b.whole;
  filled = All-append (λ segment. (length segment == 0) ≡ false) a.segments b.segments a.filled b.filled;
  leads = All-append (λ segment. not (is_dot segment) ≡ true) a.segments b.segments a.leads b.leads;
  is = (λ i. a.is i ++ 47 ∷ b.is i) ∙ sym (joined_all a.segments b.segments a.some b.some);
}

-- a path below a folder that leads down or has no name
pub leads_below : (folder path : List ℕ) → (folder ≡ []) ⊎ LeadsDown folder → LeadsDown path → LeadsDown (path_below folder path)
leads_below folder path (inl none) down = subst (λ (x : List ℕ). LeadsDown (path_below x path)) (sym none) down
leads_below folder path (inr leads) down =
    elim (length folder == 0) as (λ b. LeadsDown (if b then path else folder ++ 47 ∷ path)) [ true ↦ down | false ↦ leads_joined folder path leads down ]

-- ---- the folder of a file

abbrev IsWhole : List ℕ → Type 0
IsWhole segment = All (λ b. (b == 47) ≡ false) segment

abbrev IsFilled : List ℕ → Type 0
IsFilled segment = (length segment == 0) ≡ false

abbrev Leads : List ℕ → Type 0
Leads segment = not (is_dot segment) ≡ true

no_slash : (segment : List ℕ) (k : ℕ) → IsWhole segment → k < length segment → get_or segment k 0 ≡ 47 → ⊥
no_slash segment k whole less is =
    let e : (get_or segment k 0 == 47) ≡ false = All-get_or (λ b. (b == 47) ≡ false) segment k 0 less whole in
    both (get_or segment k 0) is e
  where
    both : (n : ℕ) → n ≡ 47 → (n == 47) ≡ false → ⊥
    both n same other = let f : ◌≡◌ {A = Bool} true false = sym (ap (λ (m : ℕ). m == 47) same) ∙ other in cc

one_leads : (x : List ℕ) → IsWhole x → IsFilled x → Leads x → LeadsDown x
one_leads x whole filled leads = record {
  segments = x ∷ [];
  some = refl;
  whole = All-cons IsWhole x [] whole (All-nil IsWhole);
  filled = All-cons IsFilled x [] filled (All-nil IsFilled);
  leads = All-cons Leads x [] leads (All-nil Leads);
  is = refl;
}

-- what stands before the last `/` of segments leads down
cut : (x : List ℕ) (xs : List (List ℕ)) → All IsWhole (x ∷ xs) → All IsFilled (x ∷ xs) → All Leads (x ∷ xs) → (k : ℕ) → k < length (join_with_byte 47 (x ∷ xs)) → get_or (join_with_byte 47 (x ∷ xs)) k 0 ≡ 47
    → LeadsDown (take k (join_with_byte 47 (x ∷ xs)))
cut x [] whole filled leads k less is = absurd (no_slash x k (All-head IsWhole x [] whole) less is)
cut x (y ∷ ys) whole filled leads k less is =
    let rest : List ℕ = join_with_byte 47 (y ∷ ys) in
    let here = one_leads x (All-head IsWhole x (y ∷ ys) whole) (All-head IsFilled x (y ∷ ys) filled) (All-head Leads x (y ∷ ys) leads) in
    elim (cases_order k (length x)) [
      | inl same ↦ subst (λ (n : ℕ). LeadsDown (take n (x ++ 47 ∷ rest))) (sym same) (subst LeadsDown (sym (take-append_seam x (47 ∷ rest))) here)
      | inr (inl lower) ↦ absurd (no_slash x k (All-head IsWhole x (y ∷ ys) whole) lower (sym (get_or_append_left x (47 ∷ rest) 0 k lower) ∙ is))
      | inr (inr higher) ↦
          let j = k - (length x + 1) in
          let at : k ≡ length x + suc j = omega (arith, higher) in
          let there : get_or rest j 0 ≡ 47 = sym (get_or-append-add x (47 ∷ rest) (suc j) 0) ∙ (ap (λ (n : ℕ). get_or (x ++ 47 ∷ rest) n 0) (sym at) ∙ is) in
          let long = length-append x (47 ∷ rest) in
          let inside : j < length rest = omega (arith, long, less, at) in
          let more = cut y ys (All-tail IsWhole x (y ∷ ys) whole) (All-tail IsFilled x (y ∷ ys) filled) (All-tail Leads x (y ∷ ys) leads) j inside there in
          subst (λ (n : ℕ). LeadsDown (take n (x ++ 47 ∷ rest))) (sym at) (subst LeadsDown (sym (take-append-add x (47 ∷ rest) (suc j))) (leads_joined x (take j rest) here more))
    ]

cut_all : (segments : List (List ℕ)) → (length segments == 0) ≡ false → All IsWhole segments → All IsFilled segments → All Leads segments → (k : ℕ) → k < length (join_with_byte 47 segments) → get_or (join_with_byte 47 segments) k 0 ≡ 47
    → LeadsDown (take k (join_with_byte 47 segments))
cut_all [] some whole filled leads k less is = absurd (cc)
cut_all (x ∷ xs) some whole filled leads k less is = cut x xs whole filled leads k less is

-- the folder of a document leads down, or has no name
pub leads_folder : (kind : NestedKind) (source folder : List ℕ) → LeadsDown source → IsFolderOf kind source folder → (folder ≡ []) ⊎ LeadsDown folder
leads_folder Package source folder down is = inr (subst LeadsDown (sym is) down)
leads_folder Definition source folder down (Top _ none is) = inl is
leads_folder Definition source folder down (Below _ k less at last is) =
    let within : k < length (join_with_byte 47 down.segments) = subst (λ (p : List ℕ). k < length p) down.is less in
    let there : get_or (join_with_byte 47 down.segments) k 0 ≡ 47 = subst (λ (p : List ℕ). get_or p k 0 ≡ 47) down.is at in
    inr (subst LeadsDown (sym (is ∙ ap (take k) down.is)) (cut_all down.segments down.some down.whole down.filled down.leads k within there))
