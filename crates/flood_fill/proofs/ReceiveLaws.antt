-- Laws of words as bytes.
use Rattle.std.specs.Prelude.{◌≡◌, refl, List, [], ◌∷◌, ◌++◌, ℕ, ◌+◌, ◌*◌, ◌<◌, length, take, get_or}
use Rattle.std.proofs.Common.{ap, ◌∙◌, append_assoc, append-nil, add-one, arith, length-append, take-suc}
use Rattle.words.specs.Bytes.{little_endian}
use Rattle.words.proofs.BytesLaws.{length-little_endian}
use Rattle.flood_fill.specs.Receive.{word_bytes}

pub length_word_bytes : (ws : List ℕ) → length (word_bytes ws) ≡ 4 * length ws
unfolding word_bytes
length_word_bytes [] = refl
length_word_bytes (w ∷ ws) = simp (length-append, length-little_endian, length_word_bytes ws) (omega arith)

pub word_bytes-append : (a b : List ℕ) → word_bytes (a ++ b) ≡ word_bytes a ++ word_bytes b
unfolding word_bytes
word_bytes-append [] b = refl
word_bytes-append (w ∷ a) b = simp (word_bytes-append a b, append_assoc)

-- the bytes of one word more
pub bytes-more : (l : List ℕ) (i : ℕ) → i < length l → word_bytes (take (i + 1) l) ≡ word_bytes (take i l) ++ little_endian 4 (get_or l i 0)
unfolding word_bytes
bytes-more l i h =
    rw (add-one i, take-suc l i 0 h) (word_bytes-append (take i l) (get_or l i 0 ∷ []) ∙ ap (λ (x : List ℕ). word_bytes (take i l) ++ x) (append-nil (little_endian 4 (get_or l i 0))))
