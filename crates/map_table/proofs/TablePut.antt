-- Laws of a map's table put part by part: one region more behind those put, and all of them behind the count.
use Rattle.std.specs.Prelude.{◌≡◌, List, [], ◌∷◌, ◌++◌, ℕ, zero, suc, ◌+◌, ◌*◌, ◌≤◌, ◌<◌, take, get_or}
use Rattle.std.proofs.Common.{ap, ◌∙◌, append_assoc, append-nil, add-one, arith, length-take-le, take_all}
use Rattle.std.proofs.Math.Path.{sym}
use Rattle.std.proofs.Math.ListN.{length}
use Rattle.words.specs.Bytes.{little_endian}
use Rattle.words.proofs.BytesLaws.{length-little_endian}
use Rattle.words.specs.Store.{store, store_if_fits}
use Rattle.words.proofs.StoreLaws.{store-fits, store-behind, store-adjoining, store-whole}
use Rattle.memory_region.specs.declared.region.Region.{Region}
use Rattle.memory_map.specs.declared.map.Map.{Map}
use Rattle.memory_map.specs.Map.{no_region}
use Rattle.map_table.specs.Table.{region_bytes, regions_bytes, table_of}
use Rattle.map_table.proofs.TableWritten.{length-region_bytes, length-regions_bytes, length-table_of}

regions-next : (gs : List Region) (i : ℕ) → i < length gs → regions_bytes (take (suc i) gs) ≡ regions_bytes (take i gs) ++ region_bytes (get_or gs i no_region)
unfolding regions_bytes
regions-next [] i h = absurd (omega arith)
regions-next (g ∷ gs) zero h = append-nil (region_bytes g)
regions-next (g ∷ gs) (suc i) h = rw (regions-next gs i (omega arith)) (sym (append_assoc (region_bytes g) (regions_bytes (take i gs)) (region_bytes (get_or gs i no_region))))

module _ (t : List ℕ) (m : Map) {u v : List ℕ} (eight : length m.regions ≡ 8) (whole : length t ≡ 132) where
  pub region-put : (i : ℕ) → i < 8 → u ≡ store t 4 (regions_bytes (take i m.regions))
      → v ≡ store_if_fits u (4 + 16 * i) (region_bytes (get_or m.regions i no_region)) → v ≡ store t 4 (regions_bytes (take (i + 1) m.regions))
  region-put i h e f =
      let g = get_or m.regions i no_region in
      let d = regions_bytes (take i m.regions) in
      let l : length d ≡ 16 * i = length-regions_bytes (take i m.regions) ∙ ap (λ (n : ℕ). 16 * n) (length-take-le i m.regions (omega arith)) in
      rw (add-one i, regions-next m.regions i (omega arith))
      (store-behind t 4 d (region_bytes g) (4 + 16 * i) u v (omega arith) (omega (arith, length-region_bytes g)) e f)

  pub table-put : (i : ℕ) → 8 ≤ i → u ≡ store_if_fits t 0 (little_endian 4 m.count) → v ≡ store u 4 (regions_bytes (take i m.regions)) → v ≡ table_of m
  unfolding table_of
  table-put i h e f =
      let n = little_endian 4 m.count in
      let l = length-little_endian 4 m.count in
      let w : v ≡ store (store t 0 n) (0 + length n) (regions_bytes m.regions) =
      f ∙ rw (take_all i m.regions (omega arith), e, store-fits t 0 n (omega arith), l) in
      w ∙ store-adjoining t 0 n (omega arith) (regions_bytes m.regions) ∙ store-whole t (table_of m) (length-table_of m eight ∙ sym whole)
