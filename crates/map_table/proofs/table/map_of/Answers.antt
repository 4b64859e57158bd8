-- `map_table::table::map_of` meets its contract: no sound map for another table, else the count and the eight regions.
use Rattle.std.proofs.Common.{sym, ◌∙◌, ap, arith, length-set, take_all}
use Rattle.std.specs.Prelude.{List, length, ℕ, ◌≡◌, refl}
use Rattle.words.specs.Bytes.{little_endian_at}
use Rattle.std.proofs.lemmas.List.{take_more_set}
use Rattle.map_table.specs.Table.{regions_in}
use Rattle.memory_map.specs.declared.map.Map.{Map}
use Rattle.memory_region.specs.declared.region.Region.{Region}
use Rattle.map_table.proofs.TableLaws.{map-of-table, map-of-other, regions-more}
use Rattle.map_table.proofs.table.map_of.Goals as goal

pub returns-then-not-regular : goal.returns-then-not-regular
returns-then-not-regular c = simp c.empty-map.ensures (sym (map-of-other c.args.table.now (sym c.if-not-regular.ensures)))

pub loop-i-init : goal.loop-i-init
unfolding regions_in
loop-i-init c = (ap (λ (m : Map). length m.regions) c.empty-map.ensures, refl)

pub loop-i-preserved : goal.loop-i-preserved
loop-i-preserved c = let l = c.loop-i in
    let t = c.args.table.now in (
      length-set l.region-items l.i _ ∙ l.invariant.0,
      take_more_set l.region-items l.i c.region_in.result (omega arith) ∙ rw (l.invariant.1, c.region_in.ensures) (sym (regions-more l.i t 4)),
    )

pub returns : goal.returns
returns c = let l = c.loop-i in
    let t = c.args.table.now in
    let i : l.i ≡ 8 = omega arith in
    let all = take_all l.i l.region-items (omega arith) in
    rw (map-of-table t (sym c.if-not-regular.ensures), c.le_word_at.ensures)
    (ap (λ (r : List Region). record { regions = r; count = little_endian_at 4 t 0 }) (sym all ∙ l.invariant.1 ∙ ap (λ (n : ℕ). regions_in n t 4) i))
