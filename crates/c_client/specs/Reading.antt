-- An end as it is read: a number too wide for its field becomes the widest, and a rank is a byte. No call's promise mentions this.
use Rattle.client.specs.declared.Counts.{Counts}
use Rattle.client.specs.declared.Client.{Client}
use Rattle.client.specs.View.{client_of}
use Rattle.c_layout.specs.Numbers.{capped, capped_line}

abbrev pub capped_counts : Counts → Counts
capped_counts k =
    record {
      own = capped_line k.own;
      len = capped 65535 k.len;
      total = k.total;
      inverse = k.inverse;
      n = capped 255 k.n;
      line = capped 255 k.line;
      ranks = k.ranks;
    }

abbrev pub capped_end : Client → Client
capped_end c = client_of (capped_counts c.counts) c.words
