-- The settings of cutcard.
-- Assumes nothing.
use Rattle.std.specs.Prelude.{ℕ, true, false, pos, negsuc}
use Rattle.std.specs.Float.{fin}
use Rattle.colour.specs.declared.Settings.{Settings}

-- the alpha threshold, and the settings of cutcard (R40): 128, yes, 1, 0.03125 (which is 1 / 2⁵), yes
abbrev pub threshold : ℕ
threshold = 128

abbrev pub settings : Settings
settings =
    record {
      alpha_threshold = pos threshold;
      key_bg = true;
      key_bg_fringe = pos 1;
      key_bg_tolerance = fin false 1 (negsuc 4);
      crop_to_alpha = true;
    }
