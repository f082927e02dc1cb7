-- An interrupt: who waits for the device, and that nobody does where a word is held for it.
use Rattle.std.proofs.Common.{◌≡◌, ℕ, suc, ◌<◌, Bool, true, false, ◌||◌, ltb, None, Some, is_some, List, [], ◌∷◌, length, get_or, sym, refl, ap, ◌∙◌, arith, lt-ltb}
use Rattle.rules.specs.Lists.{all, any}
use Rattle.rules.specs.Numbers.{devices}
use Rattle.laws.specs.Words.{Limits}
use Rattle.rules.specs.Tables.{Tables}
use Rattle.rules.specs.States.{at_device, waits_for}
use Rattle.rules.specs.Waking.{wake}
use Rattle.rules.specs.Interrupt.{held_for, interrupt}
use Rattle.laws.specs.Words.{Result, Thread}
use Rattle.laws.proofs.Tests.{clash}
use Rattle.laws.proofs.Tally.{all_of, any_count, zero_any}
use Rattle.laws.specs.Types.{Ruled}
use Rattle.laws.proofs.Places.{asleep}
use Rattle.laws.proofs.Single.{interrupt_wakes}
use Rattle.store.specs.Store.{name_where}
use Rattle.store.proofs.Limits.{some_name}
use Rattle.handling.proofs.Moving.{woken_room}

-- the devices of held words
pub held_low : {L : Limits} (T : Tables) → Ruled L T → all (λ h. ltb h.device devices) T.held ≡ true
held_low T R = all_of (λ h. ltb h.device devices) T.held (λ h i. lt-ltb h.device devices (R.fits.held h i).0)

-- ---- the name of the first that passes

module _ (p : Thread → Bool) where
  -- it is that of a thread that passes, at place i
  abbrev Named : List Thread → Type 0
  Named ts = (z : Thread) × (i : ℕ) × (i < length ts) × (p (get_or ts i z) ≡ true) × (Some (get_or ts i z).name ≡ name_where p ts)

  name_of : (ts : List Thread) → any p ts ≡ true → Named ts
  unfolding any
  name_of [] e = absurd (clash e refl)
  name_of (t ∷ ts) e = go (p t) refl e (λ k. name_of ts k)
    where
      go : (b : Bool) → p t ≡ b → (b || any p ts) ≡ true → (any p ts ≡ true → Named ts) → Named (t ∷ ts)
      go true h k f = (t, 0, omega arith, h, rw h)
      go false h k f = let r = f k in (r.0, suc r.1, omega (arith, r.2), r.3, rw h r.4)

-- ---- who waits for a device

module _ {L : Limits} (T : Tables) (R : Ruled L T) (d : ℕ) where
  -- where a word is held for it, nobody
  pub held_waiter : any (held_for d) T.held ≡ true → any (waits_for d) T.threads ≡ false
  held_waiter e = zero_any (waits_for d) T.threads (omega (arith, R.fits.waiters d, any_count (held_for d) T.held e))

  pub no_waiter : name_where (waits_for d) T.threads ≡ None → any (waits_for d) T.threads ≡ false
  no_waiter e = sym (some_name (waits_for d) T.threads) ∙ ap is_some e

  module _ (n : ℕ) (e : name_where (waits_for d) T.threads ≡ Some n) where
    waits : any (waits_for d) T.threads ≡ true
    waits = sym (some_name (waits_for d) T.threads) ∙ ap is_some e

    pub waiter_room : length T.ready < L.threads
    unfolding at_device
    waiter_room = woken_room T R.inv (waits_for d) (λ t k. (asleep _ _ _ t.state k).1) waits

    pub waiter_wakes : (w : ℕ) → wake n (Result w) T ≡ interrupt d w T
    waiter_wakes w =
        let r = name_of (waits_for d) T.threads waits in
        let same : n ≡ (get_or T.threads r.1 r.0).name = cc in
        ap (λ (k : ℕ). wake k (Result w) T) same
        ∙ sym (interrupt_wakes T R.inv.agree.once r.1 r.0 r.2 d w (omega (arith, R.fits.waiters d)) r.3)
