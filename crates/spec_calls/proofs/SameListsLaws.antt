-- What is lent over several calls, one after another.
-- Assumes nothing.
use mathlib.Core.Path.{◌∙◌}
use Rattle.spec_calls.specs.declared.ChartMut.{ChartMut}
use Rattle.spec_calls.specs.Lent.{SameLists}

-- the lists are the same, and as long, over one call and over the next, and so over both
pub same-lists : {a b c : ChartMut} → SameLists a b → SameLists b c → SameLists a c
same-lists h k = record {
  table = k.table ∙ h.table;
  keys = k.keys ∙ h.keys;
  levels = k.levels ∙ h.levels;
  items = k.items ∙ h.items;
  table_length = k.table_length ∙ h.table_length;
  keys_length = k.keys_length ∙ h.keys_length;
  levels_length = k.levels_length ∙ h.levels_length;
  items_length = k.items_length ∙ h.items_length;
}
