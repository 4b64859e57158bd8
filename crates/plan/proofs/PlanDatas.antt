-- Laws of the data of puts: its length, the data of the first and of the other pieces, and that it is bytes.
use Rattle.std.specs.Prelude.{◌≡◌, refl, List, [], ◌∷◌, ◌++◌, ℕ, length, take, drop}
use Rattle.std.proofs.Common.{ap, sym, ◌∙◌, append_assoc, length-append, take-append-drop}
use Rattle.words.specs.Choice.{All}
use Rattle.words.proofs.ChoiceLaws.{all_append}
use Rattle.words.specs.Bytes.{Bytes}
use Rattle.plan.specs.Plan.{Piece, data_of, put_bytes, datas}

pub length-datas : (ps : List Piece) → length (datas ps) ≡ put_bytes ps
unfolding datas put_bytes
length-datas [] = refl
length-datas (p ∷ ps) = rw (length-append, length-datas ps)

pub datas-append : (ps qs : List Piece) → datas (ps ++ qs) ≡ datas ps ++ datas qs
unfolding datas
datas-append [] qs = refl
datas-append (p ∷ ps) qs = rw (datas-append ps qs, append_assoc)

pub datas-split : (ps : List Piece) (i : ℕ) → datas ps ≡ datas (take i ps) ++ datas (drop i ps)
datas-split ps i = ap datas (sym (take-append-drop i ps)) ∙ datas-append (take i ps) (drop i ps)

-- of bytes
pub datas-bytes : (ps : List Piece) → All (λ p. Bytes (data_of p)) ps → Bytes (datas ps)
unfolding datas
datas-bytes [] b = tt
datas-bytes (p ∷ ps) b = all_append _ (data_of p) _ b.0 (datas-bytes ps b.1)
