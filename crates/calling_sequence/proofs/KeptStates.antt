-- What is kept of a run that is held: the states, one after the other, and that a checkpoint may hold all of it.
use Rattle.std.proofs.Common.{◌≡◌, ◌⊎◌, ℕ, ◌+◌, ◌*◌, ◌^◌, ◌<◌, ◌≤◌, List, [], ◌∷◌, ◌++◌, inl, inr, refl, sym, ap, ◌∙◌, subst, append_assoc, append-nil, arith, length, get_or}
use Rattle.std.specs.Prelude.{All}
use Rattle.std.specs.List.{flat_map}
use Rattle.std.specs.Int.{w32, to_be_bytes}
use Rattle.std.proofs.lemmas.Grind.{flat_map-append}
use Rattle.std.proofs.lemmas.List.{get_or-append-add, get_or_append_left, length-append}
use Rattle.std.proofs.lemmas.List.Elements.{All-append, All-cons, All-head, All-nil, All-tail}
use Rattle.exact_parts.specs.Field.{AreBytes}
use Rattle.fmu_peer.specs.CloseAll.{Instance}
use Rattle.system_checkpoint.specs.Spelling.{sized}
use Rattle.slot_calls.specs.Keeping.{IsPackedOf}
use Rattle.calling_sequence.specs.Holding.{KeepsBytes}

-- ---- states

abbrev IsFew : List ℕ → Type 0
IsFew state = length state ≤ 2 ^ 20

-- the states of the instances before this place were put after other bytes
pub record KeptSoFar (place : ℕ) (instances : List Instance) (old new : List ℕ) : Type 0 where
  pub states : List (List ℕ)
  pub len : length states ≡ place
  pub each : (i : ℕ) (d : Instance) → i < place → IsPackedOf (get_or instances i d).view (get_or states i [])
  pub few : All (λ (state : List ℕ). length state ≤ 2 ^ 20) states
  pub are_bytes : All AreBytes states
  pub text : new ≡ old ++ flat_map sized states

pub kept_none : (instances : List Instance) (old : List ℕ) → KeptSoFar 0 instances old old
kept_none instances old = record {
  states = [];
  len = refl;
  each = λ i d w. absurd (omega (arith, w));
  few = All-nil IsFew;
  are_bytes = All-nil AreBytes;
  text = sym (append-nil old);
}

sized_len : (state : List ℕ) → length (sized state) ≡ 4 + length state
sized_len state = length-append (to_be_bytes w32 (length state)) state

pub states_len : (states : List (List ℕ)) → All (λ (state : List ℕ). length state ≤ 2 ^ 20) states → length (flat_map sized states) ≤ length states * (4 + 2 ^ 20)
states_len [] few = omega arith
states_len (state ∷ states) few =
    let own = All-head IsFew state states few in
    let rest = states_len states (All-tail IsFew state states few) in
    let whole = length-append (sized state) (flat_map sized states) in
    let here = sized_len state in
    omega (arith, own, rest, whole, here)

-- so many bytes were put
pub kept_len : (place : ℕ) (instances : List Instance) (old new : List ℕ) → KeptSoFar place instances old new → length new ≤ length old + place * (4 + 2 ^ 20)
kept_len place instances old new k =
    let states = states_len k.states k.few in
    let whole = ap length k.text ∙ length-append old (flat_map sized k.states) in
    let same : length k.states * (4 + 2 ^ 20) ≡ place * (4 + 2 ^ 20) = ap (λ (n : ℕ). n * (4 + 2 ^ 20)) k.len in
    omega (arith, states, whole, same)

split : (i k : ℕ) → i < k + 1 → (i < k) ⊎ (i ≡ k)
split i k w = grind (arith)

-- one more
pub kept_more : (place : ℕ) (instances : List Instance) (old mid new : List ℕ) → KeptSoFar place instances old mid → (state : List ℕ) → ((d : Instance) → IsPackedOf (get_or instances place d).view state) → length state ≤ 2 ^ 20 → AreBytes state → new ≡ mid ++ sized state →
    KeptSoFar (place + 1) instances old new
kept_more place instances old mid new k state packed few bytes text =
    let states = k.states ++ state ∷ [] in
    record {
      states = states;
      len = length-append k.states (state ∷ []) ∙ ap (λ (n : ℕ). n + 1) k.len;
      each = λ i d w. at i d (split i place w);
      few = All-append IsFew k.states (state ∷ []) k.few (All-cons IsFew state [] few (All-nil IsFew));
      are_bytes = All-append AreBytes k.states (state ∷ []) k.are_bytes (All-cons AreBytes state [] bytes (All-nil AreBytes));
      text = text ∙ ap (λ (l : List ℕ). l ++ sized state) k.text ∙ append_assoc old (flat_map sized k.states) (sized state)
          ∙ ap (λ (l : List ℕ). old ++ (flat_map sized k.states ++ l)) (sym (append-nil (sized state))) ∙ ap (λ (l : List ℕ). old ++ l) (sym (flat_map-append sized k.states (state ∷ [])));
    } where
      at : (i : ℕ) (d : Instance) → (i < place) ⊎ (i ≡ place) → IsPackedOf (get_or instances i d).view (get_or (k.states ++ state ∷ []) i [])
      at i d (inl w) = subst (λ (bs : List ℕ). IsPackedOf (get_or instances i d).view bs) (sym (get_or_append_left k.states (state ∷ []) [] i (let l = k.len in omega (arith, l, w)))) (k.each i d w)
      at i d (inr is) =
          let there : get_or (k.states ++ state ∷ []) i [] ≡ state = ap (λ (n : ℕ). get_or (k.states ++ state ∷ []) n []) (let l = k.len in let j : i ≡ length k.states + 0 = omega (arith, l, is) in j) ∙ get_or-append-add k.states (state ∷ []) 0 [] in
          subst (λ (bs : List ℕ). IsPackedOf (get_or instances i d).view bs) (sym there) (subst (λ (n : ℕ). IsPackedOf (get_or instances n d).view state) (sym is) (packed d))

pub kept_all : (place : ℕ) (instances : List Instance) (old new : List ℕ) → place ≡ length instances → KeptSoFar place instances old new → KeepsBytes instances old new
kept_all place instances old new is k = record {
  states = k.states;
  packed = record { len = k.len ∙ is; each = λ i d w. k.each i d (omega (arith, is, w)) };
  few = k.few;
  are_bytes = k.are_bytes;
  text = k.text;
}
