-- Each message of the image keeps the agreement with it, and leaves a block that stands.
use Rattle.std.specs.Prelude.{◌≡◌, true, false, ℕ, length}
use Rattle.std.proofs.Common.{ap, sym, ◌∙◌, arith}
use mathlib.Core.List.{List, [], ◌∷◌}
use Rattle.std.proofs.lemmas.List.{get_or-replicate}
use Rattle.words.specs.Choice.{All}
use Rattle.words.proofs.ChoiceLaws.{true-is-false}
use Rattle.words.proofs.StoreLaws.{length-store, drop-store}
use Rattle.flood_fill.specs.declared.message.Message.{Message}
use Rattle.flood_fill.specs.Refusals.{open_size}
use Rattle.flood_fill.specs.Receive.{Result, receive}
use Rattle.flood_fill_series.specs.Claims.{Held, leaves, held_after, Image, block_of, OfImage}
use Rattle.flood_fill_series.proofs.Proved.Ends.{open_id, Ends, refuses, begins, skips, opens, keeps, drops, misses, finishes, ends}
use Rattle.flood_fill_series.proofs.Proved.Sound.{sound-ends}
use Rattle.flood_fill_series.proofs.Proved.Places.{Blocks, bytes_of, place_of, Stands, block-length, ends-in-image}
use Rattle.flood_fill_series.proofs.Proved.Agrees.{Agrees, same-last, begun, keeps-word, inside, stored, fits, stands-still, done-stands}

module _ (i : Image) (last : ℕ) (f : Blocks i last) (m₀ : List ℕ) where
  -- ---- every message
  agrees-ends : (h : Held) (m : Message) (x : Result) → Ends h.receiver h.image m x → Agrees i last m₀ h → OfImage i m
      → Agrees i last m₀ (record { receiver = x.receiver; image = x.image })
  agrees-ends h m x (refuses _ k) a p = a
  agrees-ends h m x (begins l n room limits) a (e, low, high) =
      let same : l ≡ last = same-last l last i.size (length i.words) (rw (sym e) low) (rw (sym e) high) f.low f.high in
      rw same (begun i last f m₀ h.image a.image-length a.rest n e)
  agrees-ends h m x (skips b n d) a p = a
  agrees-ends h m x (opens b n d l s) a p =
      record {
        sound = sound-ends h.receiver h.image m x (opens b n d l s) a.sound;
        count = a.count;
        size = a.size;
        open-agrees = λ c k o.
            let y : c ≡ b = sym (ap open_id o) in
            let z : k ≡ n = sym (ap open_size o) in
            record {
              size = z ∙ p ∙ ap (λ (q : ℕ). length (block_of i q)) (sym y);
              words = λ w g t.
                  true-is-false (sym t ∙ get_or-replicate 256 w false true (omega (arith, block-length i last f b, f.size-high)));
            };
        done-agrees = a.done-agrees;
        image-length = a.image-length;
        rest = a.rest;
      }
  agrees-ends h m x (keeps b w v e) a p =
      record {
        sound = sound-ends h.receiver h.image m x (keeps b w v e) a.sound;
        count = a.count;
        size = a.size;
        open-agrees = λ c n o. keeps-word i last f m₀ h.receiver b w v c n o e p.1 a.sound.words-length (a.open-agrees c n o);
        done-agrees = a.done-agrees;
        image-length = a.image-length;
        rest = a.rest;
      }
  agrees-ends h m x (drops b w v e) a p = a
  agrees-ends h m x (misses b l g) a p = a
  agrees-ends h m x (finishes b l o none) a p =
      let e = stored i last f m₀ h a b l o none in
      let room = fits i last f m₀ h a b l o none in
      let within = ends-in-image i last f b (inside i last f m₀ h a b l o none) in
      record {
        sound = sound-ends h.receiver h.image m x (finishes b l o none) a.sound;
        count = a.count;
        size = a.size;
        open-agrees = λ c n u. let z : ◌≡◌ {A = ℕ} 0 1 = cc in absurd (omega arith);
        done-agrees = done-stands i last f m₀ h a b l o none;
        image-length = rw e (length-store h.image (place_of i b) (bytes_of i b) room ∙ a.image-length);
        rest = rw e (drop-store h.image (place_of i b) (bytes_of i b) room _ within ∙ a.rest);
      }

  pub agrees-leaves : (h : Held) (m : Message) → Agrees i last m₀ h → OfImage i m → Agrees i last m₀ (leaves receive h m)
  agrees-leaves h m a p = agrees-ends h m (receive h.receiver h.image m) (ends h.receiver h.image m) a p

  pub agrees_after : (h : Held) (ms : List Message) → Agrees i last m₀ h → All (OfImage i) ms → Agrees i last m₀ (held_after receive h ms)
  unfolding held_after
  agrees_after h [] a p = a
  agrees_after h (m ∷ ms) a p = agrees_after (leaves receive h m) ms (agrees-leaves h m a p.0) p.1

  -- ---- a block that stands in the lent image stays there
  stands-ends : (h : Held) (m : Message) (x : Result) (c : ℕ) → Ends h.receiver h.image m x → Agrees i last m₀ h → Stands i c h.image
      → Stands i c x.image
  stands-ends h m x c (refuses _ k) a s = s
  stands-ends h m x c (begins l n room limits) a s = s
  stands-ends h m x c (skips b n d) a s = s
  stands-ends h m x c (opens b n d l g) a s = s
  stands-ends h m x c (keeps b w v e) a s = s
  stands-ends h m x c (drops b w v e) a s = s
  stands-ends h m x c (misses b l g) a s = s
  stands-ends h m x c (finishes b l o none) a s = stands-still i last f m₀ h a b l o none c s

  pub stands_after : (h : Held) (ms : List Message) (c : ℕ) → Agrees i last m₀ h → All (OfImage i) ms → Stands i c h.image
      → Stands i c (held_after receive h ms).image
  unfolding held_after
  stands_after h [] c a p s = s
  stands_after h (m ∷ ms) c a p s =
      stands_after (leaves receive h m) ms c (agrees-leaves h m a p.0) p.1
      (stands-ends h m (receive h.receiver h.image m) c (ends h.receiver h.image m) a s)
