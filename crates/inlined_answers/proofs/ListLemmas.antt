-- Lists and options that are the same but for what a function leaves out.
use Rattle.std.proofs.Common.{◌≡◌, ◌∙◌, ℕ, List, [], ◌∷◌, map, Option, Some, None, refl, sym, ap, slice_get}
use Rattle.std.specs.Prelude.{Contains, IsSomeAnd, option_and_then}
use Rattle.std.specs.Option.{option_map}
use Rattle.std.specs.List.{AllZip}
use Rattle.std.proofs.lemmas.Option.{get_or_from_slice_get, none-some, same_Some, slice_get-get_or, slice_get-map, slice_get_within}
use Rattle.dependency_order.specs.Graph.{Leads}

-- ---- options

pub some_there : {A B : Type 0} (f : A → B) (P Q : A → Type 0) → ((a b : A) → f a ≡ f b → P a → Q b) → (one other : Option A) → option_map f one ≡ option_map f other → IsSomeAnd one P → IsSomeAnd other Q
some_there f P Q keeps None other e h = absurd h
some_there f P Q keeps (Some a) None e h = absurd (none-some (f a) (sym e))
some_there f P Q keeps (Some a) (Some b) e h = keeps a b (same_Some (f a) (f b) e) h

pub some_then : {A : Type 0} (P Q : A → Type 0) → ((a : A) → P a → Q a) → (one : Option A) → IsSomeAnd one P → IsSomeAnd one Q
some_then P Q keeps None h = absurd h
some_then P Q keeps (Some a) h = keeps a h

pub read_alike : {A B C : Type 0} (f : A → B) (g h : A → C) → ((a b : A) → f a ≡ f b → g a ≡ h b) → (one other : Option A) → option_map f one ≡ option_map f other → option_map g one ≡ option_map h other
read_alike f g h keeps None None e = refl
read_alike f g h keeps None (Some b) e = absurd (none-some (f b) e)
read_alike f g h keeps (Some a) None e = absurd (none-some (f a) (sym e))
read_alike {A} {B} {C} f g h keeps (Some a) (Some b) e = ap (λ (x : C). Some x) (keeps a b (same_Some (f a) (f b) e))

pub found_alike : {A B C : Type 0} (f : A → B) (g h : A → Option C) → ((a b : A) → f a ≡ f b → g a ≡ h b) → (one other : Option A) → option_map f one ≡ option_map f other → option_and_then g one ≡ option_and_then h other
found_alike f g h keeps None None e = refl
found_alike f g h keeps None (Some b) e = absurd (none-some (f b) e)
found_alike f g h keeps (Some a) None e = absurd (none-some (f a) (sym e))
found_alike f g h keeps (Some a) (Some b) e = keeps a b (same_Some (f a) (f b) e)

-- ---- lists

pub mapped_at : {A B : Type 0} (f : A → B) (xs ys : List A) → map f xs ≡ map f ys → (i : ℕ) → option_map f (slice_get xs i) ≡ option_map f (slice_get ys i)
mapped_at {A} {B} f xs ys same i = sym (slice_get-map f xs i) ∙ (ap (λ (l : List B). slice_get l i) same ∙ slice_get-map f ys i)

pub some_of : {A B : Type 0} (f : A → B) (x : A) (other : Option A) → Some (f x) ≡ option_map f other → (y : A) × (other ≡ Some y) × (f x ≡ f y)
some_of f x None e = absurd (none-some (f x) (sym e))
some_of f x (Some y) e = (y, refl, same_Some (f x) (f y) e)

-- what stands at a place of the one list stands at that of the other
pub there : {A B : Type 0} (f : A → B) (xs ys : List A) → map f xs ≡ map f ys → (i : ℕ) (x : A) → slice_get xs i ≡ Some x → (y : A) × (slice_get ys i ≡ Some y) × (f x ≡ f y)
there {A} {B} f xs ys same i x is = some_of f x (slice_get ys i) (sym (ap (λ (o : Option A). option_map f o) is) ∙ mapped_at f xs ys same i)

at_of : {A : Type 0} (xs : List A) (x : A) (h : Contains xs x) → slice_get xs h.0 ≡ Some x
at_of {A} xs x h = slice_get-get_or xs h.0 x h.1 ∙ ap (λ (y : A). Some y) h.2

held_at : {A : Type 0} (xs : List A) (k : ℕ) (x : A) → slice_get xs k ≡ Some x → Contains xs x
held_at xs k x is = (k, slice_get_within xs k x is, get_or_from_slice_get xs k x x is)

pub held_there : {A B : Type 0} (f : A → B) (xs ys : List A) → map f xs ≡ map f ys → (x : A) → Contains xs x → (y : A) × Contains ys y × (f x ≡ f y)
held_there f xs ys same x h =
    let y = there f xs ys same h.0 x (at_of xs x h) in
    (y.0, held_at ys h.0 y.0 y.1, y.2)

pub each_then : {A B : Type 0} (R S : A → B → Type 0) → ((a : A) (b : B) → R a b → S a b) → (xs : List A) (ys : List B) → AllZip R xs ys → AllZip S xs ys
each_then R S keeps [] [] h = tt
each_then R S keeps [] (y ∷ ys) h = absurd h
each_then R S keeps (x ∷ xs) [] h = absurd h
each_then R S keeps (x ∷ xs) (y ∷ ys) h = (keeps x y h.0, each_then R S keeps xs ys h.1)

-- ---- ways

pub leads_along : {A : Type 0} (R S : A → A → Type 0) → ((a b : A) → R a b → S a b) → (a : A) (between : List A) (b : A) → Leads R a between b → Leads S a between b
leads_along R S keeps a [] b h = keeps a b h
leads_along R S keeps a (x ∷ xs) b h = (keeps a x h.0, leads_along R S keeps x xs b h.1)
