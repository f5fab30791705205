-- The bytes after a built-in machine's reply to Serialize.
use Rattle.std.proofs.Common.{◌≡◌, ℕ, ◌≤◌, ◌^◌, Bool, true, false, ◌&&◌, not, List, [], length, Some, None, is_some, nat_le, if◌then◌else◌, refl, sym, ap, ◌∙◌, subst, arith}
use Rattle.std.specs.Option.{option_map}
use Rattle.std.proofs.lemmas.Bool.Decides.{nat_tests}
use Rattle.value_types.specs.declared.shape.Shape.{Shape}
use Rattle.fmi_calls.specs.declared.call.BadStatus.TheVariants.{Error}
use Rattle.fmi_calls.specs.declared.call.Call.TheVariants as C
use Rattle.fmi_calls.specs.declared.call.Content.TheVariants as A
use Rattle.fmi_calls.specs.declared.call.Kind.TheVariants as K
use Rattle.fmi_calls.specs.declared.call.Reply.{Reply}
use Rattle.fmi_calls.specs.declared.call.Reply.TheVariants.{Done, Refused}
use Rattle.fmu_peer.specs.View.{IsFollowedBy}
use Rattle.bench_fmus.specs.declared.built_in.BuiltIn.{BuiltIn}
use Rattle.bench_fmus.specs.declared.saved_state.SavedState.{SavedState}
use Rattle.bench_fmus.specs.BuiltIn.{is_packable}
use Rattle.bench_fmus.specs.BuiltInView.{built_in_reply, built_in_view}
use Rattle.bench_fmus.specs.Packed.{packed, packed_size}
use Rattle.bench_fmus.specs.Told.{saved_in, slot_in}
use Rattle.bench_fmus.proofs.PackLemmas.{packed_len}

-- what is packable is saved, and its bytes are few
record CanPack (shape : Shape) (saved : SavedState) : Type 0 where
  full : saved.is_full ≡ true
  few : packed_size shape.variables ≤ 2 ^ 20

can_pack : (shape : Shape) (saved : SavedState) → is_packable shape (slot_in shape.variables saved) ≡ true → CanPack shape saved
can_pack shape saved is = by saved.is_full refl is
  where
    by : (b : Bool) → saved.is_full ≡ b → (is_some (if b then Some (saved_in shape.variables saved) else None) && nat_le (packed_size shape.variables) (2 ^ 20)) ≡ true → CanPack shape saved
    by true full is = record { full = full; few = grind (arith, nat_tests) }
    by false empty is = absurd (cc)

-- the bytes are those that the reply tells of
pub followed_by : (b : BuiltIn) (reply : Reply) (bytes : List ℕ) → reply ≡ built_in_reply b C.Serialize →
    bytes ≡ (if is_packable b.book.shape (slot_in b.book.shape.variables b.state.saved) then packed b.book.shape.variables (saved_in b.book.shape.variables b.state.saved) else []) →
    IsFollowedBy (built_in_view b) reply bytes
followed_by b reply bytes reply_is bytes_is = by (is_packable b.book.shape (slot_in b.book.shape.variables b.state.saved)) refl
  where
    by : (q : Bool) → is_packable b.book.shape (slot_in b.book.shape.variables b.state.saved) ≡ q → IsFollowedBy (built_in_view b) reply bytes
    by true is =
        let can = can_pack b.book.shape b.state.saved is in
        let told : reply ≡ Done false (A.Serialize (packed_size b.book.shape.variables)) =
        reply_is ∙ ap (λ (q : Bool). if not q then Refused K.Serialize Error else Done false (A.Serialize (packed_size b.book.shape.variables))) is in
        let put : bytes ≡ packed b.book.shape.variables (saved_in b.book.shape.variables b.state.saved) =
        bytes_is ∙ ap (λ (q : Bool). if q then packed b.book.shape.variables (saved_in b.book.shape.variables b.state.saved) else []) is in
        let len : length bytes ≡ packed_size b.book.shape.variables = ap (λ (xs : List ℕ). length xs) put ∙ packed_len b.book.shape.variables (saved_in b.book.shape.variables b.state.saved) in
        let few = can.few in
        subst (λ (r : Reply). IsFollowedBy (built_in_view b) r bytes) (sym told) (record {
          count = len;
          few = omega arith;
          packed = ap (λ (q : Bool). option_map (packed b.book.shape.variables) (if q then Some (saved_in b.book.shape.variables b.state.saved) else None)) can.full ∙ ap (λ (xs : List ℕ). Some xs) (sym put);
        })
    by false is =
        let refused : reply ≡ Refused K.Serialize Error =
        reply_is ∙ ap (λ (q : Bool). if not q then Refused K.Serialize Error else Done false (A.Serialize (packed_size b.book.shape.variables))) is in
        let none : bytes ≡ [] =
        bytes_is ∙ ap (λ (q : Bool). if q then packed b.book.shape.variables (saved_in b.book.shape.variables b.state.saved) else []) is in
        let len : length bytes ≡ 0 = ap (λ (xs : List ℕ). length xs) none in
        subst (λ (r : Reply). IsFollowedBy (built_in_view b) r bytes) (sym refused) (record {
          count = len;
          few = omega arith;
          packed = tt;
        })
