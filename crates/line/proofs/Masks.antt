-- A window's mask, read as messages: one step of it, and the count of its ones. Assumes nothing.
use Rattle.std.proofs.Common.{◌≡◌, ℕ, zero, suc, ◌+◌, ◌*◌, ◌/◌, ◌%◌, ◌^◌, ◌<◌, ◌≤◌, [], ◌∷◌, ◌++◌, length, drop, sym, refl, ap, ◌∙◌, mod-lt, mod-eq_of_lt, add-one, arith, lit<}
use lib.Arith.{digits_div, digits_mod, lt-one}
use lib.Bits.{bit_and, bit_or}
use lib.Count.{ones, ones_step}
use Rattle.std.proofs.lemmas.Nat.{and_mask, or_shifted, field_of, mod-pow-add, shr_below}
use Rattle.std.proofs.lemmas.List.{length_push, drop-append-le}
use Rattle.line.specs.Messages.{misses, last}
use Rattle.line.specs.Windows.{bit_of, message_of, held_in}
use Rattle.line.specs.declared.messages.Message.{Message}
use Rattle.line.specs.declared.messages.Message.TheVariants.{Heard, Missed}
use Rattle.line.proofs.Lasts.{misses_push}

bit_small : (m : Message) → bit_of m < 2
bit_small Heard = lit< tt
bit_small Missed = lit< tt

bit_message : (m : Message) → message_of (bit_of m) ≡ m
bit_message Heard = refl
bit_message Missed = refl

message_bit : (b : ℕ) → b < 2 → bit_of (message_of b) ≡ b
message_bit zero h = refl
message_bit (suc b) h = let e : b ≡ 0 = omega arith in ap suc (sym e)

pub length_held : (n mask : ℕ) → length (held_in n mask) ≡ n
unfolding held_in
length_held zero mask = refl
length_held (suc n) mask = omega (arith, length_push (held_in n (mask / 2)) (message_of (mask % 2)), length_held n (mask / 2))

-- a new lowest bit
held_push : (n mask : ℕ) (m : Message) → held_in (suc n) (mask * 2 + bit_of m) ≡ held_in n mask ++ m ∷ []
unfolding held_in
held_push n mask m =
    rw (digits_div mask (bit_small m), digits_mod mask (bit_small m), bit_message m)

-- bits above the lowest n are not looked at
held_mod : (n mask : ℕ) → held_in n (mask % 2 ^ n) ≡ held_in n mask
unfolding held_in
held_mod zero mask = refl
held_mod (suc n) mask =
    let half : mask % 2 ^ suc n / 2 ≡ mask / 2 % 2 ^ n = rw (← add-one n) (field_of mask n 1) in
    let low : mask % 2 ^ suc n % 2 ≡ mask % 2 = rw (← add-one n, mod-pow-add mask n 1) (digits_mod (mask / 2 % 2 ^ n) (mod-lt mask (lit< tt))) in
    rw (half, low, held_mod n (mask / 2))

-- the newest n of n + 1 messages
held_drop : (n mask : ℕ) → drop 1 (held_in (suc n) mask) ≡ held_in n mask
unfolding held_in
held_drop zero mask = refl
held_drop (suc n) mask =
    let one : 1 ≤ length (held_in (suc n) (mask / 2)) = omega (arith, length_held (suc n) (mask / 2)) in
    rw (drop-append-le 1 (held_in (suc n) (mask / 2)) (message_of (mask % 2) ∷ []) one, held_drop n (mask / 2))

last_held : (mask : ℕ) (m : Message) → last 20 (held_in 20 mask ++ m ∷ []) ≡ held_in 19 mask ++ m ∷ []
last_held mask m =
    let w = held_in 20 mask in
    let size = length_held 20 mask in
    let shorter = held_drop 19 mask in
    grind (arith, length_push, drop-append-le)

-- ---- the count of ones

pub ones_held : (n mask : ℕ) → mask < 2 ^ n → ones mask ≡ misses (held_in n mask)
unfolding held_in ones
ones_held zero mask h = ap ones (lt-one h)
ones_held (suc n) mask h =
    let lt : mask < 2 ^ (n + 1) = rw add-one h in
    let step = ones_step mask in
    let rest = ones_held n (mask / 2) (shr_below mask n 1 lt) in
    let push = misses_push (held_in n (mask / 2)) (message_of (mask % 2)) in
    let low = message_bit (mask % 2) (mod-lt mask (lit< tt)) in
    omega arith

-- One message more. The code computes the number with a new lowest bit, cut to 20 bits: s.
module _ (mask : ℕ) (m : Message) (b s : ℕ) (h : mask < 2 ^ 20) (bit : b ≡ bit_of m) (is : s ≡ bit_and (bit_or (mask * 2 % 4294967296) b) 1048575) where
  shift : s ≡ (mask * 2 + bit_of m) % 2 ^ 20
  shift =
      let lt : mask * 2 < 4294967296 = omega arith in
      is ∙ rw (mod-eq_of_lt lt, bit) (and_mask (bit_or (mask * 2) (bit_of m)) 20 ∙ ap (λ (n : ℕ). n % 2 ^ 20) (or_shifted mask 1 (bit_of m) (bit_small m)))

  pub shift_held : held_in 20 s ≡ last 20 (held_in 20 mask ++ m ∷ [])
  shift_held = ap (held_in 20) shift ∙ held_mod 20 (mask * 2 + bit_of m) ∙ held_push 19 mask m ∙ sym (last_held mask m)

  pub shift_misses : ones s ≡ misses (last 20 (held_in 20 mask ++ m ∷ []))
  shift_misses = ones_held 20 s (rw shift (mod-lt (mask * 2 + bit_of m) (lit< tt))) ∙ ap misses shift_held
